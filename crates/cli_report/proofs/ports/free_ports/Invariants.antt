use Rattle.std.proofs.Common.{ℕ, ◌<◌}
use Rattle.cli_report.specs.Ports.{HasNone, block_port}
use Rattle.cli_report.proofs.ports.free_ports.Given as goal

-- each block so far has a port that was found taken
abbrev pub invariant-loop-place : goal.invariant-loop-place
invariant-loop-place g l = (place : ℕ) → place < l.place → HasNone (g.P.Ports.holds l.from) (block_port l.number place)
