use Rattle.std.proofs.Common.{◌≡◌}
use Rattle.sim_world.specs.Events.{ForItsRecords, job_in}
use Rattle.sim_world.proofs.Turns.{TurnLeft}
use Rattle.sim_world.proofs.world.World.turn.Given as goal

abbrev pub invariant-loop-place : goal.invariant-loop-place
invariant-loop-place g l = record {
  settings : l.self.settings ≡ l.initial.self.settings;
  table : l.self.table ≡ l.initial.self.table;
  left : ForItsRecords l.initial.self (λ records most. TurnLeft (record {
    job = job_in (g.H.Handlers.meaning l.handlers) l.initial.self;
    now = l.now;
    from = l.from;
    to = l.to;
    world = records;
    most = most;
  }) l.self l.place);
}
