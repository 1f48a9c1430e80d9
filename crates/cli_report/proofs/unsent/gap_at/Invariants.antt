use Rattle.std.proofs.Common.{◌≡◌, drop}
use Rattle.cli_report.specs.Unsent.{gap_at}
use Rattle.cli_report.proofs.unsent.gap_at.Given as goal

-- none so far is of this rank
abbrev pub invariant-loop-gap : goal.invariant-loop-gap
invariant-loop-gap l = gap_at l.gaps l.rank ≡ gap_at (drop l.gap-index l.gaps) l.rank
