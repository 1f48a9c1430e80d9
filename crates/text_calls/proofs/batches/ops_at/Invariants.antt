use Rattle.std.proofs.Common.{◌≡◌, ◌-◌, ◌≤◌, length}
use Rattle.text_calls.specs.Forms.{Operations, bundle_at, each_at}
use Rattle.text_calls.proofs.Runs.{with_prefix}
use Rattle.text_calls.proofs.batches.ops_at.Given as goal

abbrev pub invariant-loop-rest : goal.invariant-loop-rest
invariant-loop-rest l = record {
  so_far : with_prefix l.ops.items (each_at (bundle_at Operations) (16 - length l.ops.items) l.rest)
      ≡ each_at (bundle_at Operations) 16 l.bytes;
  within : length l.ops.items ≤ 16;
}

abbrev pub decreases-loop-rest : goal.decreases-loop-rest
decreases-loop-rest l = 16 - length l.ops.items
