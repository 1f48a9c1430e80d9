use Rattle.cli_report.specs.Facts.{GivesEnded}
use Rattle.cli_report.specs.Gathering.{GivesTo}
use Rattle.cli_report.proofs.facts.ended_nodes.Given as goal

-- how the children of the ranks so far ended
abbrev pub invariant-loop-rank : goal.invariant-loop-rank
invariant-loop-rank g l = GivesTo (GivesEnded (g.C.Children.ended l.children)) l.rank l.nodes.items
