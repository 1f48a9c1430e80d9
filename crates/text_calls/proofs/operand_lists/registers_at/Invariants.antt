use Rattle.std.proofs.Common.{◌≡◌, ◌-◌, ◌≤◌, length}
use Rattle.text_calls.specs.Forms.{U8, parts_at}
use Rattle.text_calls.proofs.Runs.{with_prefix}
use Rattle.text_calls.proofs.operand_lists.registers_at.Given as goal

abbrev pub invariant-loop-rest : goal.invariant-loop-rest
invariant-loop-rest l = record {
  so_far : with_prefix l.items.items (parts_at U8 (16 - length l.items.items) l.rest) ≡ parts_at U8 16 l.bytes;
  within : length l.items.items ≤ 16;
}

abbrev pub decreases-loop-rest : goal.decreases-loop-rest
decreases-loop-rest l = 16 - length l.items.items
