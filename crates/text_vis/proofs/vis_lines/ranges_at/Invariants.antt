use Rattle.std.proofs.Common.{◌≡◌, ◌-◌, ◌≤◌, length}
use Rattle.text_calls.specs.Forms.{Spans, bundle_at, each_at}
use Rattle.text_calls.proofs.Runs.{with_prefix}
use Rattle.text_vis.proofs.vis_lines.ranges_at.Given as goal

abbrev pub invariant-loop-rest : goal.invariant-loop-rest
invariant-loop-rest l = record {
  so_far : with_prefix l.items.items (each_at (bundle_at Spans) (l.most - length l.items.items) l.rest)
      ≡ each_at (bundle_at Spans) l.most l.bytes;
  within : length l.items.items ≤ l.most;
}

abbrev pub decreases-loop-rest : goal.decreases-loop-rest
decreases-loop-rest l = l.most - length l.items.items
