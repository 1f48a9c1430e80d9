use Rattle.std.proofs.Common.{◌≡◌, ◌*◌, ◌≤◌, drop}
use Rattle.node_vis.specs.Pairs.{vectors}
use Rattle.node_vis.proofs.levels.few_vectors.Given as goal

abbrev pub invariant-loop-level : goal.invariant-loop-level
invariant-loop-level l =
    (l.vectors * vectors (drop l.level-index l.levels) ≡ vectors l.levels) × (l.vectors ≤ 65536)
