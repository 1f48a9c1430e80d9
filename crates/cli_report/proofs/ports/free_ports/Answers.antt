-- One block more.
use Rattle.std.proofs.Common.{ℕ, subst}
use Rattle.cli_report.proofs.Gathering.{below_more}
use Rattle.cli_report.specs.Ports.{HasNone, block_port}
use Rattle.cli_report.proofs.ports.free_ports.Goals as goal

pub loop-place-preserved : goal.loop-place-preserved
loop-place-preserved g c =
    let holds = g.P.Ports.holds c.args.from.now in
    below_more (λ (place : ℕ). HasNone holds (block_port c.number-number.result place)) c.loop-place.place
    c.loop-place.invariant
    (subst (λ (first : ℕ). HasNone holds first) c.block_port.ensures.port c.in_default.ensures)
