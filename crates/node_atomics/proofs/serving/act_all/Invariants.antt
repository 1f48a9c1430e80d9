use Rattle.std.proofs.Common.{◌≡◌, ◌+◌, ◌*◌, ◌++◌, length, take}
use Rattle.std.specs.List.{flat_map}
use Rattle.std.specs.Int.{w64, to_le_bytes}
use Rattle.part_segment.specs.Image.{written_by}
use Rattle.node_atomics.specs.Served.{changes_of, olds_of}
use Rattle.node_atomics.proofs.serving.act_all.Given as goal

-- the segment and the block are what the operations so far leave
abbrev pub invariant-loop-word : goal.invariant-loop-word
invariant-loop-word l = record {
  segment_is : l.segment ≡ written_by l.initial.segment (changes_of l.initial.segment (take l.word-index l.ops));
  same_length : length l.segment ≡ length l.initial.segment;
  block_is : l.block.items
      ≡ l.initial.block.items ++ flat_map (to_le_bytes w64) (olds_of l.initial.segment (take l.word-index l.ops));
  block_length : length l.block.items ≡ length l.initial.block.items + 8 * l.word-index;
}
