use Rattle.std.proofs.Common.{◌≡◌, drop}
use Rattle.std.specs.List.{list_any}
use Rattle.cli_report.specs.Unsent.{is_cause}
use Rattle.cli_report.proofs.unsent.has_cause.Given as goal

-- none so far is a cause
abbrev pub invariant-loop-gap : goal.invariant-loop-gap
invariant-loop-gap l =
    list_any (is_cause l.gaps l.sent) l.gaps ≡ list_any (is_cause l.gaps l.sent) (drop l.gap-index l.gaps)
