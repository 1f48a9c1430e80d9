use Rattle.std.proofs.Common.{◌≡◌, length, take}
use Rattle.node_atomics.specs.Words.{AllHave64Bits}
use Rattle.node_atomics.proofs.batch.copy_of.Given as goal

-- the operations so far are copied
abbrev pub invariant-loop-word : goal.invariant-loop-word
invariant-loop-word l = record {
  same_so : l.copy.items ≡ take l.word-index l.ops;
  long : length l.copy.items ≡ l.word-index;
  wide_so : AllHave64Bits (take l.word-index l.ops);
}
