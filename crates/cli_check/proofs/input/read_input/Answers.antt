-- The bytes that were read, or why they were not.
use Rattle.std.proofs.Common.{ap, arith, length}
use Rattle.cli_check.proofs.Inputs.{took_more, took_these}
use Rattle.cli_check.proofs.input.read_input.Goals as goal

pub input_of-requires : goal.input_of-requires
input_of-requires g c = omega (arith, ap length c.deref.ensures.value, c.in-Bytes.ensures.bytes.0)

pub returns-in-Bytes : goal.returns-in-Bytes
returns-in-Bytes g c =
    took_these _ _ _ _ _ c.deref.result.now c.input_of.result c.deref.ensures.value c.in-Bytes.ensures.bytes
    c.input_of.ensures

pub returns-in-TooLong : goal.returns-in-TooLong
returns-in-TooLong g c = took_more _ _ c.in-TooLong.ensures.bytes

pub returns-in-Fault : goal.returns-in-Fault
returns-in-Fault g c = c.in-Fault.ensures.fault tt
