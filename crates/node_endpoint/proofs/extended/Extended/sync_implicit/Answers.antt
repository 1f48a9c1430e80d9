use Rattle.std.proofs.Common.{take, sym, ◌∙◌}
use Rattle.node_endpoint.proofs.Syncs.{implicit_does}
use Rattle.node_endpoint.proofs.extended.Extended.sync_implicit.Goals as goal

pub returns : goal.returns
returns c =
    implicit_does c.args.core.now c.args.self.now c.try_sync_implicit.new.self c.args.thread
    c.args.which c.try_sync_implicit.result (sym c.is_begun.ensures ∙ c.if-is_begun.false)
    c.try_sync_implicit.ensures.answer c.try_sync_implicit.ensures.stands c.try_sync_implicit.ensures.room
