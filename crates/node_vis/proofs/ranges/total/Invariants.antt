use Rattle.std.proofs.Common.{◌≡◌, ◌+◌, ◌*◌, ◌≤◌, drop}
use Rattle.node_vis.specs.Pairs.{total}
use Rattle.node_vis.proofs.ranges.total.Given as goal

abbrev pub invariant-loop-len : goal.invariant-loop-len
invariant-loop-len l =
    (l.all + total (drop l.len-index l.ranges) ≡ total l.ranges)
    × (l.all ≤ l.len-index * 18446744073709551616)
