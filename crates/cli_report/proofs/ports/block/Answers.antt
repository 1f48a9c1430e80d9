-- One port more.
use Rattle.std.proofs.Common.{ℕ, ◌+◌, ◌<◌}
use Rattle.cli_report.proofs.Gathering.{below_more}
use Rattle.cli_report.specs.Ports.{IsFree}
use Rattle.cli_report.proofs.ports.block.Goals as goal

pub loop-place-preserved : goal.loop-place-preserved
loop-place-preserved g c = λ place positive within.
    below_more (λ (at : ℕ). 0 < at → IsFree (g.P.Ports.holds c.args.from.now) (c.args.first + at)) c.loop-place.place
    (λ at less above. c.loop-place.invariant at above less)
    (λ above. record { by = c.in-Some.held; held = c.in-Some.ensures })
    place within positive
