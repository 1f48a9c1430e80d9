use Rattle.std.proofs.Common.{sym, subst}
use Rattle.node_rules.specs.declared.call.Call.{Call}
use Rattle.node_rules.specs.declared.call.Event.TheVariants as event
use Rattle.gasnet_c.specs.Telling.{Tells}
use Rattle.gasnet_c.specs.Whole.{RunsNoneIn}
use Rattle.gasnet_c.proofs.Telling.{asks_another_in, dead_is_none, dead_tells}
use Rattle.gasnet_c.proofs.messages.gasnet_c_request.Goals as goal

pub returns-then-not-handle-clause-tells : goal.returns-then-not-handle-clause-tells
returns-then-not-handle-clause-tells c = λ apart meaning.
    dead_tells meaning _ _ _ _ _ (dead_is_none _ _ c.requires c.if-not-handle.true) c.dead.ensures

pub returns-clause-tells : goal.returns-clause-tells
returns-clause-tells c = λ apart meaning.
    let held = c.args.handle.now.place.held in
    let same = c.asked_call-call.ensures.call in
    subst (λ (call : Call). Tells meaning held c.args.now (event.Call 0 call) c.stepped.result c.stepped.new.buffer
    c.stepped.new.handle.place.held) same
    (c.stepped.ensures.quiet (subst (λ (call : Call). RunsNoneIn held (event.Call 0 call)) (sym same)
    (asks_another_in held c.args.ask.now apart)) meaning)
