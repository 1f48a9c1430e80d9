use Rattle.node_endpoint.proofs.Syncs.{sync_does}
use Rattle.node_endpoint.proofs.extended.Extended.sync.Goals as goal

pub returns : goal.returns
returns c =
    sync_does c.args.core.now c.args.self.now c.try_sync.new.self c.args.thread c.args.handle c.try_sync.result
    c.try_sync.ensures.answer c.try_sync.ensures.stands c.try_sync.ensures.room
