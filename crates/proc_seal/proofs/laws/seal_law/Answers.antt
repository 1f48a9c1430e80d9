use Rattle.proc_seal.proofs.Seals.{opens}
use Rattle.proc_seal.proofs.laws.seal_law.Goals as goal

pub returns : goal.returns
returns c = record { opens = opens }
