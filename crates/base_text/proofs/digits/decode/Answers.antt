use Rattle.std.proofs.Common.{arith}
use Rattle.base_text.proofs.BytePairs.{pairs_end, pairs_step}
use Rattle.base_text.proofs.digits.decode.Goals as goal

pub bytes-preserved : goal.bytes-preserved
bytes-preserved c =
    pairs_step _ _ c.bytes.i _ (omega arith) (omega arith) c.byte_of.ensures c.bytes.invariant

pub returns : goal.returns
returns c = pairs_end _ _ c.bytes.i (omega arith) (omega arith) c.bytes.invariant
