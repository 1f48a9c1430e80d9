use Rattle.std.proofs.Common.{arith}
use Rattle.base_io.proofs.Whole.{read_past, read_within}
use Rattle.base_io.proofs.reading.read_all.Goals as goal

pub returns-then-n-limit-clause-bytes : goal.returns-then-n-limit-clause-bytes
returns-then-n-limit-clause-bytes g c =
    read_past _ _ _ _ _ _ _ c.loop-bytes.invariant.read c.in-Got.ensures.bytes.0 c.in-Got.ensures.bound
    c.loop-bytes.invariant.within (omega arith)

pub returns-then-is_err-clause-bytes : goal.returns-then-is_err-clause-bytes
returns-then-is_err-clause-bytes g c =
    read_within _ _ _ _ _ _ _ c.loop-bytes.invariant.read c.in-Got.ensures.bytes.0 c.in-Got.ensures.bound
    c.loop-bytes.invariant.within (omega arith)
