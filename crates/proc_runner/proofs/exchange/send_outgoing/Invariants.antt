use Rattle.std.proofs.Common.{ℕ, List}
use Rattle.proc_runner.specs.Turns.{AreOutgoing, Sends}
use Rattle.proc_runner.proofs.exchange.send_outgoing.Given as goal

-- the first i are sent
abbrev pub invariant-loop-i : goal.invariant-loop-i
invariant-loop-i g l =
    (given : List (ℕ × List ℕ)) × AreOutgoing g.M.Machine l.machine l.i given
    × Sends g.L.Link given l.initial.link l.link
