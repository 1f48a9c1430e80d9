use Rattle.std.proofs.Common.{◌+◌, ◌<◌, ◌≤◌, length, refl, subst, ◌∙◌}
use Rattle.std.proofs.Math.ListN.{drop_of_length-le}
use Rattle.sim_world.specs.Events.{job_in}
use Rattle.text_script.specs.Bodies.{script_meaning}
use Rattle.text_script.specs.Registration.{handlers_of}
use Rattle.text_job.specs.JobReading.{lines_of}
use Rattle.sim_run.specs.ScheduleRun.{RunsLine, nodes_stage}
use Rattle.sim_run.specs.declared.said.Said.TheVariants as said
use Rattle.sim_world.proofs.Moving.{same_job}
use Rattle.sim_run.proofs.Halfway.{Stand}
use Rattle.sim_run.proofs.LinesWritten.{not_done}
use Rattle.sim_run.proofs.ScheduleRuns.{has_run_nothing, has_run_more, has_run_up_to, has_run_all}
use Rattle.sim_run.proofs.ScheduleLines.{timed_there, timed_next}
use Rattle.sim_run.proofs.run.run_schedule.Goals as goal

pub loop-place-init : goal.loop-place-init
loop-place-init g c = record {
  settings = refl;
  table = refl;
  have = c.requires.have;
  stood = c.requires.stood;
  runs = λ from stands. has_run_nothing _ _ _ from stands;
}

pub returns-in_default : goal.returns-in_default
returns-in_default g c =
    let lines = lines_of c.args.script.now.schedule in
    let place = c.loop-place.place in
    let old = c.args.nodes.now.world in
    let meaning = script_meaning (handlers_of c.args.script.now) in
    let before = nodes_stage g.K.Sink.taken g.K.Sink.faults c.args.nodes.now c.args.sink.now in
    let mid = nodes_stage g.K.Sink.taken g.K.Sink.faults c.loop-place.nodes c.loop-place.sink in
    let after = nodes_stage g.K.Sink.taken g.K.Sink.faults c.run_line.new.nodes c.run_line.new.sink in
    let there = timed_there lines place (subst (λ n. place < n) c.lines-place-end.ensures c.loop-place-test.true) in
    let ran =
    same_job (λ job. RunsLine job (place + 1) there.0 mid after c.run_line.result) meaning old
    c.loop-place.nodes.world c.loop-place.invariant.settings c.loop-place.invariant.table
    (c.run_line.ensures.runs there.0 there.1)
    in
    record {
      job = record {
        settings = c.run_line.ensures.job.job.settings ∙ c.loop-place.invariant.settings;
        table = c.run_line.ensures.job.job.table ∙ c.loop-place.invariant.table;
      };
      runs = λ area group most stands.
          let from : Stand = record { nodes = record { area = area; group = group }; most = most } in
          let next = timed_next lines place there.0 there.1 in (
            has_run_up_to (job_in meaning old) lines place there.0 before mid after from c.run_line.result
                c.in_default.not-Done next (c.loop-place.invariant.runs from stands) ran,
            not_done c.run_line.result _ c.in_default.not-Done,
          );
    }

pub loop-place-preserved : goal.loop-place-preserved
loop-place-preserved g c =
    let lines = lines_of c.args.script.now.schedule in
    let place = c.loop-place.place in
    let old = c.args.nodes.now.world in
    let meaning = script_meaning (handlers_of c.args.script.now) in
    let before = nodes_stage g.K.Sink.taken g.K.Sink.faults c.args.nodes.now c.args.sink.now in
    let mid = nodes_stage g.K.Sink.taken g.K.Sink.faults c.loop-place.nodes c.loop-place.sink in
    let after = nodes_stage g.K.Sink.taken g.K.Sink.faults c.run_line.new.nodes c.run_line.new.sink in
    let there = timed_there lines place (subst (λ n. place < n) c.lines-place-end.ensures c.loop-place-test.true) in
    let line = rw c.in-Done.is at (c.run_line.ensures.runs there.0 there.1) in
    let ran =
    same_job (λ job. RunsLine job (place + 1) there.0 mid after said.Done) meaning old
    c.loop-place.nodes.world c.loop-place.invariant.settings c.loop-place.invariant.table line
    in
    let stood = c.loop-place.invariant.stood in
    record {
      settings = c.run_line.ensures.job.job.settings ∙ c.loop-place.invariant.settings;
      table = c.run_line.ensures.job.job.table ∙ c.loop-place.invariant.table;
      have = c.run_line.ensures.job.have c.loop-place.invariant.have;
      stood = record {
        nodes = record { area = stood.nodes.area; group = _ };
        most = _;
        stands = (line stood.nodes.area stood.nodes.group stood.most stood.stands).1;
      };
      runs = λ from stands.
          has_run_more (job_in meaning old) lines place there.0 before mid after from
          (timed_next lines place there.0 there.1) (c.loop-place.invariant.runs from stands) ran;
    }

pub returns-clause-runs : goal.returns-clause-runs
returns-clause-runs g c = λ area group most stands.
    let lines = lines_of c.args.script.now.schedule in
    let place = c.loop-place.place in
    let over : length lines ≤ place = subst (λ n. n ≤ place) c.lines-place-end.ensures c.loop-place-test.false in
    let from : Stand = record { nodes = record { area = area; group = group }; most = most } in
    has_run_all _ lines place _ _ from (drop_of_length-le lines over) (c.loop-place.invariant.runs from stands)
