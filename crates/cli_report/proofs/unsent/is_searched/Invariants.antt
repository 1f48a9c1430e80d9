use Rattle.std.proofs.Common.{◌≡◌, drop}
use Rattle.cli_report.specs.Unsent.{entries_from}
use Rattle.cli_report.proofs.unsent.is_searched.Given as goal

-- the entries so far and those of the others
abbrev pub invariant-loop-node : goal.invariant-loop-node
invariant-loop-node l = entries_from 0 l.nodes ≡ entries_from l.entries (drop l.node-index l.nodes)
