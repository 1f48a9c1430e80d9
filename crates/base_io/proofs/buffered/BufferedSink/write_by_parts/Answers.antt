use Rattle.std.proofs.Common.{arith, length, length-drop, ap}
use Rattle.base_io.proofs.Outboxes.{gathers_prefix, gathers_failed}
use Rattle.base_io.proofs.buffered.BufferedSink.write_by_parts.Goals as goal

pub returns-in-Failed : goal.returns-in-Failed
returns-in-Failed g c = gathers_failed _ _ _ _ _ c.loop-taken.invariant.bytes c.in-Failed.ensures.gathers

pub loop-taken-preserved : goal.loop-taken-preserved
loop-taken-preserved g c =
    let lens = simp length-drop at (ap length c.split_at.ensures.back) in
    record {
      bound = omega (arith, c.in-Put.ensures.bound.0);
      bytes = gathers_prefix _ _ _ _ _ _ _ c.split_at.ensures.back c.loop-taken.invariant.bytes c.in-Put.ensures.gathers;
    }
