use Rattle.std.proofs.Common.{arith}
use Rattle.sim_world.specs.Settling.{round_events}
use Rattle.sim_world.proofs.Moving.{turns_none, turns_next, turns_all}
use Rattle.sim_world.proofs.world.World.settle.Goals as goal

pub loop-turn-init : goal.loop-turn-init
loop-turn-init g c =
    turns_none (g.H.Handlers.meaning c.args.handlers.now) c.args.self.now
    (λ job turn. round_events job c.args.now)

pub loop-turn-preserved : goal.loop-turn-preserved
loop-turn-preserved g c =
    turns_next (g.H.Handlers.meaning c.args.handlers.now) c.args.self.now c.loop-turn.self c.round.new.self
    (λ job turn. round_events job c.args.now)
    c.loop-turn.turn c.loop-turn.invariant
    c.round.ensures.settings c.round.ensures.table c.in_ok-round.ensures.moves

pub returns-clause-moves : goal.returns-clause-moves
returns-clause-moves g c =
    turns_all (g.H.Handlers.meaning c.args.handlers.now) c.args.self.now c.loop-turn.self
    (λ job turn. round_events job c.args.now)
    c.loop-turn.turn c.args.rounds c.loop-turn.invariant
    (omega (arith, c.loop-turn-test.false, c.loop-turn.auto.turn-end))
