use Rattle.std.proofs.Common.{◌-◌, ◌≤◌}
use Rattle.sim_world.specs.Settling.{turn_events}
use Rattle.sim_world.proofs.Moving.{Turns}
use Rattle.sim_world.proofs.world.World.row.Given as goal

abbrev pub invariant-loop-to : goal.invariant-loop-to
invariant-loop-to g l = record {
  turns : Turns (g.H.Handlers.meaning l.handlers) l.initial.self
      (λ job to world. turn_events l.now l.from to ((world l.from).asked to)) l.to l.self;
  last : l.to ≤ l.initial.self.settings.nodes;
}

abbrev pub decreases-loop-to : goal.decreases-loop-to
decreases-loop-to g l = l.initial.self.settings.nodes - l.to
