use Rattle.sim_world.specs.Settling.{row_events}
use Rattle.sim_world.proofs.Moving.{Turns}
use Rattle.sim_world.proofs.world.World.pairs.Given as goal

abbrev pub invariant-loop-from : goal.invariant-loop-from
invariant-loop-from g l =
    Turns (g.H.Handlers.meaning l.handlers) l.initial.self (λ job. row_events job l.now) l.from l.self
