use Rattle.std.proofs.Common.{◌≡◌, ◌-◌, ◌≤◌, length}
use Rattle.text_calls.specs.Forms.{U8, parts_at}
use Rattle.text_calls.proofs.Runs.{with_prefix}
use Rattle.text_job.proofs.locks.locks_at.Given as goal

abbrev pub invariant-loop-rest : goal.invariant-loop-rest
invariant-loop-rest l = record {
  so_far : with_prefix l.items.items (parts_at U8 (length l.bytes - length l.items.items) l.rest)
      ≡ parts_at U8 (length l.bytes) l.bytes;
  within : length l.items.items ≤ length l.bytes;
}

abbrev pub decreases-loop-rest : goal.decreases-loop-rest
decreases-loop-rest l = length l.bytes - length l.items.items
