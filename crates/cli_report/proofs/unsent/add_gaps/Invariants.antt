use Rattle.std.proofs.Common.{◌≡◌, ◌++◌, take}
use Rattle.std.specs.String.{string_bytes}
use Rattle.std.specs.List.{flat_map}
use Rattle.cli_report.specs.Unsent.{gap_told}
use Rattle.cli_report.proofs.unsent.add_gaps.Given as goal

-- the lines of the gaps so far were added
abbrev pub invariant-loop-gap : goal.invariant-loop-gap
invariant-loop-gap l = string_bytes l.text
    ≡ string_bytes l.initial.text ++ flat_map (gap_told l.gaps l.sent l.all) (take l.gap-index l.gaps)
