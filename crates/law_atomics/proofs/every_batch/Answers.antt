use Rattle.law_atomics.proofs.every_batch.Goals as goal
use Rattle.law_atomics.proofs.Laws.{atomics_hold}

pub returns : goal.returns
returns c = record { laws = atomics_hold }
