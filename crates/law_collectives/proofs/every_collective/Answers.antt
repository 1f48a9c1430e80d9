use Rattle.law_collectives.proofs.every_collective.Goals as goal
use Rattle.law_collectives.proofs.Phases.{phases_are_safe}
use Rattle.law_collectives.proofs.Collecting.{collectives_hold}

pub returns : goal.returns
returns c = record { phases = phases_are_safe; collectives = collectives_hold }
