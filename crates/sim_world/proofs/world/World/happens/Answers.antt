use Rattle.sim_world.specs.Events.{event_of}
use Rattle.sim_world.proofs.Moving.{step_moves}
use Rattle.sim_world.proofs.world.World.happens.Goals as goal

pub returns-in_default : goal.returns-in_default
returns-in_default g c = record {
  settings = c.step.ensures.settings;
  table = c.step.ensures.table;
  wants = tt;
  moves = step_moves (g.H.Handlers.meaning c.args.handlers.now) c.args.self.now c.step.new.self c.args.now
      (event_of c.args.event.now) c.step.result c.in_default.not-NoMemory c.step.ensures.steps;
}
