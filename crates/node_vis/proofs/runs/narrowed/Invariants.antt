use Rattle.std.proofs.Common.{◌≡◌, take}
use Rattle.std.specs.Prelude.{map}
use Rattle.node_vis.specs.Runs.{piece_in}
use Rattle.node_vis.proofs.runs.narrowed.Given as goal

abbrev pub invariant-loop-run : goal.invariant-loop-run
invariant-loop-run l = l.pieces.items ≡ map piece_in (take l.run-index l.runs)
