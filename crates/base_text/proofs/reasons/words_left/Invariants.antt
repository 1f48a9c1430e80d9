use Rattle.std.proofs.Common.{◌≡◌, ◌≤◌, ◌+◌, drop}
use Rattle.base_text.specs.Reasons.{words_left}
use Rattle.base_text.proofs.reasons.words_left.Given as goal

abbrev pub invariant-loop-b : goal.invariant-loop-b
invariant-loop-b l = record {
  so_far : l.count + words_left (drop l.b-index l.bytes) ≡ words_left l.bytes;
  within : l.count ≤ l.b-index;
}
