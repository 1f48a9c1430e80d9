use Rattle.std.proofs.Common.{◌∙◌}
use Rattle.base_io.specs.Buffered.{outbox}
use Rattle.sim_run.specs.ScheduleRun.{nodes_stage}
use Rattle.sim_run.specs.Schedules.{opening_nodes}
use Rattle.sim_run.proofs.JobRuns.{job_ended, job_ran, job_said, job_stands}
use Rattle.sim_run.proofs.LinesWritten.{not_done}
use Rattle.sim_run.proofs.run.run_in.Goals as goal

pub run_schedule-requires-clause-stood : goal.run_schedule-requires-clause-stood
run_schedule-requires-clause-stood g c = record {
  nodes = opening_nodes c.args.script.now;
  most = λ i. 0;
  stands = c.requires.stands;
}

pub returns-in_default : goal.returns-in_default
returns-in_default g c =
    let text = c.args.script.now in
    let old = nodes_stage g.K.Sink.taken g.K.Sink.faults c.args.nodes.now c.args.sink.now in
    let new = nodes_stage g.K.Sink.taken g.K.Sink.faults c.run_schedule.new.nodes c.run_schedule.new.sink in
    let said = c.run_schedule.result in
    record {
      lines = job_ended text old new said c.in_default.not-Done
          (job_ran text old new said c.requires.settings c.requires.table c.requires.stands c.run_schedule.ensures.runs);
      world = not_done said _ c.in_default.not-Done;
    }

pub returns-in-Done-clause-lines : goal.returns-in-Done-clause-lines
returns-in-Done-clause-lines g c =
    let text = c.args.script.now in
    let old = nodes_stage g.K.Sink.taken g.K.Sink.faults c.args.nodes.now c.args.sink.now in
    let new = nodes_stage g.K.Sink.taken g.K.Sink.faults c.run_schedule.new.nodes c.run_schedule.new.sink in
    let said = c.run_schedule.result in
    job_said text old new (outbox g.K.Sink.taken g.K.Sink.faults c.write_nodes.new.sink) said c.from_wrote.result
    c.write_nodes.result c.in-Done.is c.from_wrote.ensures
    (c.run_schedule.ensures.job.settings ∙ c.requires.settings)
    (job_ran text old new said c.requires.settings c.requires.table c.requires.stands c.run_schedule.ensures.runs)
    c.write_nodes.ensures

pub returns-in-Done-clause-world : goal.returns-in-Done-clause-world
returns-in-Done-clause-world g c =
    let text = c.args.script.now in
    let old = nodes_stage g.K.Sink.taken g.K.Sink.faults c.args.nodes.now c.args.sink.now in
    let new = nodes_stage g.K.Sink.taken g.K.Sink.faults c.run_schedule.new.nodes c.run_schedule.new.sink in
    let said = c.run_schedule.result in
    job_stands text old new said c.from_wrote.result c.write_nodes.result c.in-Done.is c.from_wrote.ensures
    (c.run_schedule.ensures.job.settings ∙ c.requires.settings)
    (c.run_schedule.ensures.job.table ∙ c.requires.table)
    (job_ran text old new said c.requires.settings c.requires.table c.requires.stands c.run_schedule.ensures.runs)
