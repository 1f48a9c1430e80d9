use Rattle.std.proofs.Common.{◌≡◌, ◌*◌, length, take}
use Rattle.part_collective_area.specs.Results.{combination, together_from}
use Rattle.node_collectives.proofs.Pieces.{data_all}
use Rattle.node_collectives.proofs.collectives.Collectives.reduce.Given as goal

abbrev pub invariant-loop-place : goal.invariant-loop-place
invariant-loop-place l = record {
  long : length l.piece ≡ l.self.shape.len;
  done : take (8 * l.place) l.piece
      ≡ together_from (combination l.self.shape.kind) (data_all l.self l.bytes) 0 l.place;
}
