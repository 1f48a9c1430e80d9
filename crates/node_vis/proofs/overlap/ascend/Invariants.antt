use Rattle.std.proofs.Common.{◌≡◌, drop}
use Rattle.std.specs.Prelude.{map}
use Rattle.node_vis.specs.Runs.{ascend_from, piece_in}
use Rattle.node_vis.proofs.overlap.ascend.Given as goal

abbrev pub invariant-loop-run : goal.invariant-loop-run
invariant-loop-run l =
    ascend_from l.way 0 (map piece_in l.runs) ≡ ascend_from l.way l.end (map piece_in (drop l.run-index l.runs))
