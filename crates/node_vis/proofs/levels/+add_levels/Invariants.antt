use Rattle.std.proofs.Common.{length}
use Rattle.node_vis.specs.Runs.{Adds}
use Rattle.node_vis.specs.Pairs.{joined_lists}
use Rattle.node_vis.proofs.Counting.{at_index}
use Rattle.node_vis.proofs.levels.+add_levels.Given as goal

abbrev pub decreases-add_levels : goal.decreases-add_levels
decreases-add_levels l = length l.levels.now

abbrev pub invariant-loop-index : goal.invariant-loop-index
invariant-loop-index l =
    Adds l.fn.runs (joined_lists (at_index l.level l.deeper l.first.remote l.first.local l.first.len) l.index) l.runs
