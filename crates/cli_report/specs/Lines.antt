-- What is told of each node.
use Rattle.std.specs.Prelude.{ℕ, List}
use Rattle.cli_report.specs.Findings.{blocked_told, counts_told, difference_told, status_told}
use Rattle.cli_report.specs.declared.findings.NodeFinding.{NodeFinding}
use Rattle.cli_report.specs.declared.findings.NodeLine.{NodeLine}
use Rattle.cli_report.specs.declared.findings.NodeLine.TheVariants as line

-- what is told of a node
abbrev pub line_told : NodeLine → NodeFinding → List ℕ
line_told (line.Counts ending) = counts_told ending
line_told line.Difference = difference_told
line_told line.Blocked = blocked_told
line_told (line.Status stuck) = status_told stuck
