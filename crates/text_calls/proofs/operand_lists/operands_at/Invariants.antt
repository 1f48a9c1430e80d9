use Rattle.std.proofs.Common.{◌≡◌, ◌-◌, ◌≤◌, length}
use Rattle.text_calls.specs.Forms.{NumberOf, parts_at}
use Rattle.text_calls.proofs.Runs.{with_prefix}
use Rattle.text_calls.proofs.operand_lists.operands_at.Given as goal

abbrev pub invariant-loop-place : goal.invariant-loop-place
invariant-loop-place l = record {
  so_far : with_prefix l.items.items (parts_at (NumberOf l.place) (17 - length l.items.items) l.rest)
      ≡ parts_at (NumberOf l.place) 17 l.bytes;
  within : length l.items.items ≤ 17;
}

abbrev pub decreases-loop-place : goal.decreases-loop-place
decreases-loop-place l = 17 - length l.items.items
