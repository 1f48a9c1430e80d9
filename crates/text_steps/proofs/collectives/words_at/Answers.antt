use Rattle.std.proofs.Common.{refl}
use Rattle.text_steps.proofs.collectives.words_at.Goals as goal

pub returns-in-Start : goal.returns-in-Start
returns-in-Start c = rw c.in-Start.is c.start_at.ensures

pub returns-in-Step : goal.returns-in-Step
returns-in-Step c = rw c.in-Step.is refl

pub returns-in-Try : goal.returns-in-Try
returns-in-Try c = rw c.in-Try.is c.try_at.ensures
