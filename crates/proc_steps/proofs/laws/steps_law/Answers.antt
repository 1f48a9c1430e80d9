-- The steps that a text can say.
use Rattle.proc_steps.proofs.Calm.{waiting_is_calm}
use Rattle.proc_steps.proofs.Fits.{steps_fit}
use Rattle.proc_steps.proofs.laws.steps_law.Goals as goal

pub returns : goal.returns
returns c = record { fitting = steps_fit; calm = waiting_is_calm }
