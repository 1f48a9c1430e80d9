use Rattle.std.proofs.Common.{◌≡◌, ◌*◌}
use Rattle.sim_run.specs.Schedules.{world_job}
use Rattle.sim_drill.specs.Counting.{AreAtMost}
use Rattle.sim_drill.specs.Draws.{before_round}
use Rattle.sim_drill.specs.Drilling.{CountsLines, drill_stage}
use Rattle.sim_drill.specs.Rounds.{bare_job, rounds_lines}
use Rattle.sim_drill.proofs.drill.run_rounds.Given as goal

abbrev pub invariant-loop-now : goal.invariant-loop-now
invariant-loop-now l = record {
  settings : l.world.settings ≡ l.initial.world.settings;
  table : l.world.table ≡ l.initial.world.table;
  draws : l.draws ≡ before_round l.seed l.now;
  few : AreAtMost (2 * l.now) l.counts;
  runs : CountsLines (world_job bare_job) (rounds_lines (world_job bare_job) l.seed l.now)
      (drill_stage l.initial.world l.initial.counts) (drill_stage l.world l.counts);
}
