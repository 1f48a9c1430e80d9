use Rattle.std.proofs.Common.{◌≡◌, ◌*◌, length, take}
use Rattle.node_atomics.specs.BatchRequests.{spelled_ops}
use Rattle.node_atomics.proofs.batch.spelled.Given as goal

-- the operations so far are spelled
abbrev pub invariant-loop-word : goal.invariant-loop-word
invariant-loop-word l = record {
  spelled_so : l.bytes.items ≡ spelled_ops (take l.word-index l.ops);
  long : length l.bytes.items ≡ 32 * l.word-index;
}
