use Rattle.base_io.proofs.Whole.{prefix_taken}
use Rattle.base_io.proofs.writing.write_all.Goals as goal

pub returns-then-write_prefix-bytes-clause-bytes : goal.returns-then-write_prefix-bytes-clause-bytes
returns-then-write_prefix-bytes-clause-bytes g c = prefix_taken _ _ _ _ c.write_prefix.ensures.bytes
