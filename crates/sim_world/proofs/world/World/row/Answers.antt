use Rattle.std.proofs.Common.{◌+◌, ap, ◌∙◌, arith}
use Rattle.wire_message.specs.Parameters.{Parameters}
use Rattle.sim_world.specs.Settling.{turn_events}
use Rattle.sim_world.proofs.Moving.{turns_none, turns_next, turns_to, turns_all}
use Rattle.sim_world.proofs.Turns.{no_turn}
use Rattle.sim_world.proofs.world.World.row.Goals as goal

pub loop-to-init : goal.loop-to-init
loop-to-init g c =
    let meaning = g.H.Handlers.meaning c.args.handlers.now in
    let world = c.args.self.now in
    record {
      turns = turns_to meaning world world
          (λ job to world. turn_events c.args.now c.args.from to ((world c.args.from).asked to))
          0 c.next_out-to.result (omega arith)
          (turns_none meaning world
          (λ job to world. turn_events c.args.now c.args.from to ((world c.args.from).asked to)))
          (λ to low high records most stands.
          no_turn c.args.now c.args.from to ((records c.args.from).asked to)
          (c.next_out-to.ensures.back records most stands to low high));
      last = c.next_out-to.ensures.last;
    }

pub loop-to-preserved : goal.loop-to-preserved
loop-to-preserved g c =
    let meaning = g.H.Handlers.meaning c.args.handlers.now in
    let first = c.args.self.now in
    let last = c.turn.new.self in
    record {
      turns = turns_to meaning first last
          (λ job to world. turn_events c.args.now c.args.from to ((world c.args.from).asked to))
          (c.loop-to.to + 1) c.next_out-to-in-loop-to.result c.next_out-to-in-loop-to.ensures.first
          (turns_next meaning first c.loop-to.self last
          (λ job to world. turn_events c.args.now c.args.from to ((world c.args.from).asked to))
          c.loop-to.to c.loop-to.invariant.turns
          c.turn.ensures.settings c.turn.ensures.table c.in_ok-turn.ensures.moves)
          (λ to low high records most stands.
          no_turn c.args.now c.args.from to ((records c.args.from).asked to)
          (c.next_out-to-in-loop-to.ensures.back records most stands to low high));
      last = omega (
        arith,
        c.next_out-to-in-loop-to.ensures.last,
        ap (λ (s : Parameters). s.nodes) (c.turn.ensures.settings ∙ c.loop-to.invariant.turns.settings),
      );
    }

pub returns-clause-moves : goal.returns-clause-moves
returns-clause-moves g c =
    turns_all (g.H.Handlers.meaning c.args.handlers.now) c.args.self.now c.loop-to.self
    (λ job to world. turn_events c.args.now c.args.from to ((world c.args.from).asked to))
    c.loop-to.to c.args.self.now.settings.nodes c.loop-to.invariant.turns
    (omega (
      arith,
      c.loop-to-test.false,
      c.nodes.ensures,
      c.loop-to.invariant.last,
      ap (λ (s : Parameters). s.nodes) c.loop-to.invariant.turns.settings,
    ))
