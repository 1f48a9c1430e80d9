use Rattle.std.proofs.Common.{ℕ, ◌+◌, ◌*◌, ◌≤◌, length}
use Rattle.node_vis.specs.Pairs.{range_pairs}
use Rattle.node_vis.proofs.RangePairs.{Walks, present}
use Rattle.node_vis.proofs.ranges.add_ranges.Given as goal

-- what is left ends soon
pub record Stands (far far_len near near_len : ℕ) : Type 0 where
  pub far_end : far + far_len ≤ 36893488147419103232
  pub near_end : near + near_len ≤ 36893488147419103232

abbrev pub invariant-loop-far : goal.invariant-loop-far
invariant-loop-far l =
    Stands l.far.first l.far.len l.near.first l.near.len
    × Walks l.fn.runs (range_pairs l.remote l.local) l.far.first l.far.len l.remotes l.near.first l.near.len l.locals
    l.runs

abbrev pub decreases-loop-far : goal.decreases-loop-far
decreases-loop-far l = 2 * (length l.remotes + length l.locals) + present l.far.len + present l.near.len
