use Rattle.sim_world.specs.Settling.{round_events}
use Rattle.sim_world.proofs.Moving.{Turns}
use Rattle.sim_world.proofs.world.World.settle.Given as goal

abbrev pub invariant-loop-turn : goal.invariant-loop-turn
invariant-loop-turn g l =
    Turns (g.H.Handlers.meaning l.handlers) l.initial.self (λ job turn. round_events job l.now) l.turn l.self
