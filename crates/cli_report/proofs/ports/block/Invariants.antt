use Rattle.cli_report.specs.Ports.{AreFreeTo}
use Rattle.cli_report.proofs.ports.block.Given as goal

-- the ports so far were found free
abbrev pub invariant-loop-place : goal.invariant-loop-place
invariant-loop-place g l = AreFreeTo (g.P.Ports.holds l.from) l.first l.place
