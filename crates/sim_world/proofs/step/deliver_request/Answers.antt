use Rattle.std.proofs.Common.{rules}
use Rattle.sim_world.proofs.step.deliver_request.Goals as goal

pub returns-clause-steps : goal.returns-clause-steps
returns-clause-steps g c = rw c.in-Request.is (search rules)
