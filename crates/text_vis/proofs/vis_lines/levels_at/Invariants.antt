use Rattle.std.proofs.Common.{◌≡◌, ◌-◌, ◌≤◌, length}
use Rattle.text_calls.specs.Forms.{Strides, bundle_at, each_at}
use Rattle.text_calls.proofs.Runs.{with_prefix}
use Rattle.text_vis.proofs.vis_lines.levels_at.Given as goal

abbrev pub invariant-loop-rest : goal.invariant-loop-rest
invariant-loop-rest l = record {
  so_far : with_prefix l.items.items (each_at (bundle_at Strides) (4 - length l.items.items) l.rest)
      ≡ each_at (bundle_at Strides) 4 l.bytes;
  within : length l.items.items ≤ 4;
}

abbrev pub decreases-loop-rest : goal.decreases-loop-rest
decreases-loop-rest l = 4 - length l.items.items
