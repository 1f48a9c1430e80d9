-- A call, as the endpoint's step.
use Rattle.proc_steps.proofs.Trying.{call_made}
use Rattle.proc_steps.proofs.making.make.Goals as goal

pub returns : goal.returns
returns g c = call_made _ _ _ _ c.step.ensures.steps c.step.ensures.sends
