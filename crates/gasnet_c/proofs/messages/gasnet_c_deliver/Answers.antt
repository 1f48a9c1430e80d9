use Rattle.std.proofs.Common.{rules}
use Rattle.gasnet_c.proofs.Telling.{asked_tells, dead_is_none, dead_tells}
use Rattle.gasnet_c.proofs.messages.gasnet_c_deliver.Goals as goal

pub returns-then-not-handle-clause-tells : goal.returns-then-not-handle-clause-tells
returns-then-not-handle-clause-tells c =
    dead_tells _ _ _ _ _ _ (dead_is_none _ _ c.requires c.if-not-handle.true) c.dead.ensures

pub returns-clause-tells : goal.returns-clause-tells
returns-clause-tells c =
    asked_tells c.args.reply.now c.args.handle.now.place.held c.put.new.handle.place.held c.deref_mut.result.now
    c.deliver-told.new.self c.args.now _ c.deliver-told.result _ (search rules) (search rules) c.deliver-told.ensures
