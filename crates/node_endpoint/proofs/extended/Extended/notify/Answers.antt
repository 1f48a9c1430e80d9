use Rattle.node_endpoint.proofs.Barriers.{notify_does}
use Rattle.node_endpoint.proofs.extended.Extended.notify.Goals as goal

pub returns : goal.returns
returns c thread =
    notify_does c.args.core.now c.args.self.now c.notify.new.self thread c.args.id c.args.flags c.notify.result
    c.notify.ensures.answer c.notify.ensures.stands
