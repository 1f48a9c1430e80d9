use Rattle.std.proofs.Common.{rules}
use Rattle.sim_world.proofs.step.deliver_reply.Goals as goal

pub returns-clause-steps : goal.returns-clause-steps
returns-clause-steps g c = rw c.in-Reply.is (search rules)
