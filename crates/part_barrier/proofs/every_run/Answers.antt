use Rattle.part_barrier.proofs.Runs.{try_tells, are_covered}
use Rattle.part_barrier.proofs.Meaning.{all_together}
use Rattle.part_barrier.proofs.Phases.{ended_by_all}
use Rattle.part_barrier.proofs.Within.{notifications_fit, stays_within}
use Rattle.part_barrier.proofs.every_run.Goals as goal

pub returns-clause-tells : goal.returns-clause-tells
returns-clause-tells c = try_tells

pub returns-clause-ended : goal.returns-clause-ended
returns-clause-ended c = ended_by_all

pub returns-clause-notifications : goal.returns-clause-notifications
returns-clause-notifications c = are_covered

pub returns-clause-together : goal.returns-clause-together
returns-clause-together c = all_together

pub returns-clause-fit : goal.returns-clause-fit
returns-clause-fit c = notifications_fit

pub returns-clause-stay : goal.returns-clause-stay
returns-clause-stay c = stays_within
