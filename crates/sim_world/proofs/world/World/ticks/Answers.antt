use Rattle.std.proofs.Common.{[], ◌∷◌, arith}
use Rattle.spec_network.specs.World.{Ticks}
use Rattle.node_rules.specs.EndpointRules.{timed_event}
use Rattle.sim_world.proofs.Moving.{turns_none, turns_next, turns_all}
use Rattle.sim_world.proofs.world.World.ticks.Goals as goal

pub loop-node-init : goal.loop-node-init
loop-node-init g c =
    turns_none (g.H.Handlers.meaning c.args.handlers.now) c.args.self.now
    (λ job node world. timed_event c.args.now (Ticks node) ∷ [])

pub loop-node-preserved : goal.loop-node-preserved
loop-node-preserved g c =
    turns_next (g.H.Handlers.meaning c.args.handlers.now) c.args.self.now c.loop-node.self c.happens.new.self
    (λ job node world. timed_event c.args.now (Ticks node) ∷ [])
    c.loop-node.node c.loop-node.invariant
    c.happens.ensures.settings c.happens.ensures.table c.in_ok-happens.ensures.moves

pub returns-clause-moves : goal.returns-clause-moves
returns-clause-moves g c =
    turns_all (g.H.Handlers.meaning c.args.handlers.now) c.args.self.now c.loop-node.self
    (λ job node world. timed_event c.args.now (Ticks node) ∷ [])
    c.loop-node.node c.args.self.now.settings.nodes c.loop-node.invariant
    (omega (arith, c.loop-node-test.false, c.loop-node.auto.node-end, c.nodes-node-end.ensures))
