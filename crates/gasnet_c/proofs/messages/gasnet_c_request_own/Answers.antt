use Rattle.std.proofs.Common.{◌≡◌, arith, rules}
use Rattle.gasnet_c.proofs.Telling.{dead_is_none, dead_own, empty_is, own_in, own_of}
use Rattle.gasnet_c.proofs.messages.gasnet_c_request_own.Goals as goal

pub returns-then-not-handle-clause-tells : goal.returns-then-not-handle-clause-tells
returns-then-not-handle-clause-tells c =
    dead_own _ _ _ _ (dead_is_none _ _ c.requires c.if-not-handle.true) c.dead.ensures

pub returns-clause-tells : goal.returns-clause-tells
returns-clause-tells c =
    own_in c.args.handle.now.place.held c.put.new.handle.place.held c.deref_mut.result.now c.happen-told.new.self
    c.args.now _ c.happen-told.result (search rules) (search rules)
    (own_of c.deref_mut.result.now c.happen-told.new.self c.args.now c.asked_call-call.result _ c.args.run.now
    c.args.reply_left c.happen-told.result c.happen-told.new.buffer
    c.asked_call-call.ensures.call (empty_is c.happen-told.new.buffer (omega arith)) c.happen-told.ensures.tells)
