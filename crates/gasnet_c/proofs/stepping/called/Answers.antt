use Rattle.std.proofs.Common.{ℕ, List, arith, subst}
use Rattle.node_rules.specs.declared.call.Event.TheVariants as event
use Rattle.gasnet_c.specs.Telling.{Tells}
use Rattle.gasnet_c.proofs.Telling.{asks_none_in, dead_is_none, dead_tells, empty_is}
use Rattle.gasnet_c.proofs.stepping.called.Goals as goal

pub returns-then-not-handle-clause-tells : goal.returns-then-not-handle-clause-tells
returns-then-not-handle-clause-tells c = λ meaning.
    dead_tells meaning _ _ _ _ _ (dead_is_none _ _ c.requires.whole c.if-not-handle.true) c.dead.ensures

pub returns-clause-tells : goal.returns-clause-tells
returns-clause-tells c = λ meaning.
    subst (λ (buffer : List ℕ). Tells meaning c.args.handle.now.place.held c.args.now (event.Call 0 c.args.call)
    c.stepped.result buffer c.stepped.new.handle.place.held) (empty_is c.stepped.new.buffer (omega arith))
    (c.stepped.ensures.quiet (asks_none_in c.args.handle.now.place.held c.args.call c.requires.asks_none) meaning)
