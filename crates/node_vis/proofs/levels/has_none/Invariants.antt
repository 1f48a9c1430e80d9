use Rattle.std.proofs.Common.{◌≡◌, drop}
use Rattle.std.specs.List.{list_any}
use Rattle.node_vis.specs.Runs.{is_none}
use Rattle.node_vis.proofs.levels.has_none.Given as goal

abbrev pub invariant-loop-level : goal.invariant-loop-level
invariant-loop-level l = list_any is_none l.levels ≡ list_any is_none (drop l.level-index l.levels)
