use Rattle.std.proofs.Common.{[], ◌∷◌}
use Rattle.spec_network.specs.World.{Ticks}
use Rattle.node_rules.specs.EndpointRules.{timed_event}
use Rattle.sim_world.proofs.Moving.{Turns}
use Rattle.sim_world.proofs.world.World.ticks.Given as goal

abbrev pub invariant-loop-node : goal.invariant-loop-node
invariant-loop-node g l =
    Turns (g.H.Handlers.meaning l.handlers) l.initial.self (λ job node world. timed_event l.now (Ticks node) ∷ []) l.node
    l.self
