use Rattle.law_barrier.proofs.every_run.Goals as goal
use Rattle.law_barrier.proofs.Laws.{barrier_holds}

pub returns : goal.returns
returns c = record { barrier = barrier_holds }
