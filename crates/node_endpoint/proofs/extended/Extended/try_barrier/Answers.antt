use Rattle.node_endpoint.proofs.Barriers.{try_does}
use Rattle.node_endpoint.proofs.extended.Extended.try_barrier.Goals as goal

pub returns : goal.returns
returns c thread =
    try_does c.args.core.now c.args.self.now c.try_wait.new.self thread c.args.id c.args.flags c.first_exhausted-exhausted.result
    c.try_wait.result (c.first_exhausted-exhausted.ensures thread)
    c.try_wait.ensures.answer c.try_wait.ensures.stands
