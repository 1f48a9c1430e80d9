use Rattle.std.proofs.Common.{arith}
use Rattle.proc_runner.proofs.Keeping.{opened_count, opened_has}
use Rattle.proc_runner.proofs.held.Held.open.Goals as goal

-- a station that was just made took no turns
pub invariant_of-result : goal.invariant_of-result
invariant_of-result g c =
    let none = opened_count g.M.Machine g.L.Link g.C.Clock g.K.Recorder c.args.station g.N.StationName.opening
    c.requires.opened in (
      omega (arith, none, c.open-book.ensures.total),
      c.requires.threads,
      opened_has g.M.Machine g.L.Link g.C.Clock g.K.Recorder c.args.station g.N.StationName.opening c.requires.opened,
    )
