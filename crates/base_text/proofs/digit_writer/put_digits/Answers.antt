use Rattle.std.proofs.Common.{arith}
use Rattle.base_text.proofs.BytePairs.{digits_step, digits_end}
use Rattle.base_text.proofs.digit_writer.put_digits.Goals as goal

pub bytes-preserved : goal.bytes-preserved
bytes-preserved c =
    digits_step _ _ c.bytes.i _ _ (omega arith) (omega arith) c.hex_digit.ensures c.hex_digit-in-bytes.ensures
    c.bytes.invariant

pub returns : goal.returns
returns c = digits_end _ _ c.bytes.i (omega arith) (omega arith) c.bytes.invariant
