use Rattle.std.proofs.Common.{length, arith, length-drop, ap}
use Rattle.base_io.proofs.Whole.{prefix_more}
use Rattle.base_io.proofs.writing.write_prefix.Goals as goal

pub loop-taken-preserved : goal.loop-taken-preserved
loop-taken-preserved g c =
    let lens = simp length-drop at (ap length c.split_at.ensures.back) in
    record {
      bound = omega (arith, c.in-Put.ensures.bound.0);
      bytes = prefix_more _ _ _ _ _ _ _ c.split_at.ensures.back c.loop-taken.invariant.bytes c.in-Put.ensures.bytes;
      later = omega arith;
    }
