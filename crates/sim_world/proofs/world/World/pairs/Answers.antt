use Rattle.std.proofs.Common.{arith}
use Rattle.sim_world.specs.Settling.{row_events}
use Rattle.sim_world.proofs.Moving.{turns_none, turns_next, turns_all}
use Rattle.sim_world.proofs.world.World.pairs.Goals as goal

pub loop-from-init : goal.loop-from-init
loop-from-init g c =
    turns_none (g.H.Handlers.meaning c.args.handlers.now) c.args.self.now
    (λ job. row_events job c.args.now)

pub loop-from-preserved : goal.loop-from-preserved
loop-from-preserved g c =
    turns_next (g.H.Handlers.meaning c.args.handlers.now) c.args.self.now c.loop-from.self c.row.new.self
    (λ job. row_events job c.args.now)
    c.loop-from.from c.loop-from.invariant
    c.row.ensures.settings c.row.ensures.table c.in_ok-row.ensures.moves

pub returns-clause-moves : goal.returns-clause-moves
returns-clause-moves g c =
    turns_all (g.H.Handlers.meaning c.args.handlers.now) c.args.self.now c.loop-from.self
    (λ job. row_events job c.args.now)
    c.loop-from.from c.args.self.now.settings.nodes c.loop-from.invariant
    (omega (arith, c.loop-from-test.false, c.loop-from.auto.from-end, c.nodes-from-end.ensures))
