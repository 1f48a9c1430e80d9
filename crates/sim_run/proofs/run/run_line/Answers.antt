use Rattle.std.proofs.Common.{◌≡◌, ◌+◌, Some, refl, sym, ap, ◌∙◌, subst}
use Rattle.std.proofs.lemmas.Option.{same_Some}
use Rattle.wire_message.specs.Parameters.{Parameters}
use Rattle.node_rules.specs.EndpointRules.{timed_event}
use Rattle.base_io.specs.Buffered.{outbox}
use Rattle.sim_world.specs.Events.{event_of, job_in}
use Rattle.text_script.specs.Bodies.{script_meaning}
use Rattle.text_script.specs.Registration.{handlers_of}
use Rattle.text_script.specs.ScriptInvariant.{IsWithin}
use Rattle.text_steps.specs.declared.steps.TimedEvent.{TimedEvent}
use Rattle.sim_run.specs.Schedules.{scheduled_event}
use Rattle.sim_run.specs.ScheduleRun.{event_plan, nodes_stage}
use Rattle.sim_run.proofs.KeptNodes.{world_alone, world_stood}
use Rattle.sim_run.proofs.ScheduleRuns.{plan_runs, event_is_line}
use Rattle.sim_run.proofs.run.run_line.Goals as goal

pub world_event-requires : goal.world_event-requires
world_event-requires g c =
    subst (λ (settings : Parameters). IsWithin settings c.in-Some.timed.now.event) (sym c.requires.settings)
    c.in-Some.ensures.within

pub run_event-requires-clause-stood : goal.run_event-requires-clause-stood
run_event-requires-clause-stood g c = world_stood _ c.requires.stood

-- ---- one event

pub returns-in-Some-world_event-clause-job : goal.returns-in-Some-world_event-clause-job
returns-in-Some-world_event-clause-job g c =
    world_alone c.args.script.now c.args.nodes.now.world c.run_event.new.world c.args.nodes.now.collectives.items
    c.run_event.ensures.settings c.run_event.ensures.table

pub returns-in-Some-world_event-clause-runs : goal.returns-in-Some-world_event-clause-runs
returns-in-Some-world_event-clause-runs g c = λ line at.
    let job = job_in (script_meaning (handlers_of c.args.script.now)) c.args.nodes.now.world in
    let number = c.args.place + 1 in
    let timed = c.in-Some.timed.now in
    let event = event_of c.in-Some-world_event.event in
    let same : timed ≡ line = same_Some timed line (c.in-Some.ensures.line ∙ at) in
    plan_runs job (event_plan number (timed_event timed.time event)) number line
    (nodes_stage g.K.Sink.taken g.K.Sink.faults c.args.nodes.now c.args.sink.now)
    (record {
      nodes = record { world = c.run_event.new.world; nodes = c.args.nodes.now.collectives.items };
      out = outbox g.K.Sink.taken g.K.Sink.faults c.run_event.new.sink;
    }) c.run_event.result refl
    (λ area group most h.
    event_is_line job number timed.time event line (record { area = area; group = group }) (
      ap (λ (t : TimedEvent). t.time) same,
      subst (λ (t : TimedEvent). scheduled_event group.records t.event ≡ Some event) same
          (c.in-Some-world_event.ensures.event group.records most h.world),
    ))
    c.run_event.ensures.runs

-- ---- several events, or none

pub returns-in-None-clause-runs : goal.returns-in-None-clause-runs
returns-in-None-clause-runs g c = λ line at.
    let timed = c.in-Some.timed.now in
    let same : timed ≡ line = same_Some timed line (c.in-Some.ensures.line ∙ at) in
    c.run_several.ensures.runs line (sym (ap (λ (t : TimedEvent). t.time) same))
    (sym (ap (λ (t : TimedEvent). t.event) same))
