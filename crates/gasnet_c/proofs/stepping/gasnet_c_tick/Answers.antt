use Rattle.gasnet_c.proofs.Telling.{dead_is_none, dead_tells, tick_runs_none}
use Rattle.gasnet_c.proofs.stepping.gasnet_c_tick.Goals as goal

pub returns-then-not-handle-clause-tells : goal.returns-then-not-handle-clause-tells
returns-then-not-handle-clause-tells c = λ meaning.
    dead_tells meaning _ _ _ _ _ (dead_is_none _ _ c.requires c.if-not-handle.true) c.dead.ensures

pub returns-clause-tells : goal.returns-clause-tells
returns-clause-tells c = λ meaning. c.stepped.ensures.quiet (tick_runs_none c.args.handle.now.place.held) meaning
