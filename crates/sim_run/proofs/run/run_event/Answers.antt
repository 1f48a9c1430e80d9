use Rattle.base_io.specs.Buffered.{outbox}
use Rattle.std.proofs.Common.{subst}
use Rattle.node_rules.specs.EndpointRules.{timed_event, transition}
use Rattle.sim_world.specs.Events.{StepsInWorld, event_of, job_in}
use Rattle.text_script.specs.Bodies.{script_meaning}
use Rattle.text_script.specs.Registration.{JobHandlers, handlers_of}
use Rattle.wire_message.specs.Parameters.{Parameters}
use Rattle.sim_run.specs.RunText.{node_of_event}
use Rattle.sim_run.specs.ScheduleRun.{run_stage, event_plan, WritesText, answer_text}
use Rattle.sim_run.proofs.ScheduleRuns.{event_told, nothing_told}
use Rattle.sim_run.proofs.ToldAnswers.{step_names}
use Rattle.sim_run.proofs.run.run_event.Goals as goal

pub write_event_answer-requires-clause-told : goal.write_event_answer-requires-clause-told
write_event_answer-requires-clause-told g c =
    rw c.node_of.ensures
    (step_names (script_meaning c.handlers.result.now) c.args.world.now c.step.new.self c.args.at.now
    (event_of c.args.event.now) c.step.result
    c.requires.stood c.requires.among c.step.ensures.settings c.step.ensures.steps)

pub returns-in-NoMemory-clause-runs : goal.returns-in-NoMemory-clause-runs
returns-in-NoMemory-clause-runs g c =
    let old = c.args.world.now in
    let plan = event_plan c.args.at.number (timed_event c.args.at.now (event_of c.args.event.now)) in
    nothing_told (job_in (script_meaning (handlers_of c.args.script.now)) old) plan old c.step.new.self
    (outbox g.K.Sink.taken g.K.Sink.faults c.args.sink.now)

pub returns-in_default : goal.returns-in_default
returns-in_default g c =
    let event = event_of c.args.event.now in
    let steps =
    subst
    (λ (handlers : JobHandlers). StepsInWorld (script_meaning handlers) c.args.world.now
    (transition c.args.at.now event c.step.result) c.step.new.self) c.handlers.ensures c.step.ensures.steps
    in
    let written_there = rw c.node_of.ensures at c.write_event_answer.ensures in
    let old = run_stage g.K.Sink.taken g.K.Sink.faults c.args.world.now c.args.sink.now in
    let new = run_stage g.K.Sink.taken g.K.Sink.faults c.step.new.self c.write_event_answer.new.sink in
    let wrote = c.write_event_answer.result in
    let written =
    subst
    (λ (settings : Parameters). WritesText new.world
    (answer_text settings c.args.at.number (node_of_event event) c.step.result)
    old.out new.out wrote) c.step.ensures.settings written_there
    in
    record {
      settings = c.step.ensures.settings;
      table = c.step.ensures.table;
      runs =
          rw c.from_wrote.ensures
          (event_told (script_meaning (handlers_of c.args.script.now)) old new c.args.at.number c.args.at.now
          (event_of c.args.event.now) c.step.result wrote c.in_default.not-NoMemory steps written);
    }
