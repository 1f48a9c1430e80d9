use Rattle.sim_group.specs.GroupState.{group_in}
use Rattle.std.proofs.Common.{◌≡◌}
use Rattle.sim_world.specs.Events.{job_in}
use Rattle.text_script.specs.Bodies.{script_meaning}
use Rattle.text_script.specs.Registration.{handlers_of}
use Rattle.text_job.specs.JobReading.{lines_of}
use Rattle.sim_run.specs.ScheduleRun.{GroupStood, HaveCollectives, nodes_stage}
use Rattle.sim_run.proofs.Halfway.{Stand}
use Rattle.sim_run.proofs.ScheduleRuns.{HasRun, StoodAt, progress}
use Rattle.sim_run.proofs.run.run_schedule.Given as goal

abbrev pub invariant-loop-place : goal.invariant-loop-place
invariant-loop-place g l = record {
  settings : l.nodes.world.settings ≡ l.initial.nodes.world.settings;
  table : l.nodes.world.table ≡ l.initial.nodes.world.table;
  have : HaveCollectives l.script (group_in l.nodes);
  stood : GroupStood (group_in l.nodes);
  runs : (from : Stand)
      → StoodAt (nodes_stage g.K.Sink.taken g.K.Sink.faults l.initial.nodes l.initial.sink) from
      → HasRun (job_in (script_meaning (handlers_of l.script)) l.initial.nodes.world)
      (progress (lines_of l.script.schedule) l.place)
      (nodes_stage g.K.Sink.taken g.K.Sink.faults l.initial.nodes l.initial.sink)
      (nodes_stage g.K.Sink.taken g.K.Sink.faults l.nodes l.sink) from;
}
