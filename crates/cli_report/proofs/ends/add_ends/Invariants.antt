use Rattle.std.proofs.Common.{◌≡◌, ◌++◌, take}
use Rattle.std.specs.String.{string_bytes}
use Rattle.std.specs.List.{flat_map}
use Rattle.cli_report.specs.Ends.{end_told}
use Rattle.cli_report.proofs.ends.add_ends.Given as goal

-- the lines of the nodes so far were added
abbrev pub invariant-loop-node : goal.invariant-loop-node
invariant-loop-node l = string_bytes l.text
    ≡ string_bytes l.initial.text ++ flat_map (end_told l.stuck) (take l.node-index l.nodes)
