-- What may stand in a job may stand in it where the datagrams have the second version.
use Rattle.std.proofs.Common.{◌≡◌, ℕ, true, List, [], ◌∷◌, Option, Some, None, refl, ap, subst}
use Rattle.std.proofs.lemmas.Bool.{eqb-true}
use Rattle.std.specs.List.{AllByRecursion}
use Rattle.wire_message.specs.Parameters.{Parameters, as_version_2}
use Rattle.text_job.specs.CollectAreas.{IsCollectOrNone}
use Rattle.text_job.specs.declared.job.CollectArea.{CollectArea}
use Rattle.text_calls.specs.Calls.{IsCall}
use Rattle.text_steps.specs.Events.{IsEvent, IsTimed}
use Rattle.text_job.specs.JobText.{IsNodeScript, IsScheduleOrNone}
use Rattle.text_calls.specs.Versions.{is_second}
use Rattle.text_vis.specs.VisLines.{IsVis}
use Rattle.text_vis.specs.declared.vis.VisText.{VisText}
use Rattle.text_steps.proofs.VisLaws.{vis_second}
use Rattle.text_steps.specs.Scripts.{IsStep, IsWaiting}
use Rattle.text_job.specs.declared.job.NodeScript.{NodeScript}
use Rattle.text_calls.specs.declared.scheduled.ScheduledCall.{ScheduledCall}
use Rattle.text_calls.specs.declared.scheduled.ScheduledCall.TheVariants as call
use Rattle.text_steps.specs.declared.steps.ScheduledEvent.{ScheduledEvent}
use Rattle.text_steps.specs.declared.steps.ScheduledEvent.TheVariants as event
use Rattle.text_steps.specs.declared.steps.ScriptStep.{ScriptStep}
use Rattle.text_steps.specs.declared.steps.ScriptStep.TheVariants as step
use Rattle.text_steps.specs.declared.steps.TimedEvent.{TimedEvent}
use Rattle.text_steps.specs.declared.steps.WaitingStep.{WaitingStep}
use Rattle.text_steps.specs.declared.steps.WaitingStep.TheVariants as waiting
use Rattle.text_calls.specs.declared.scope.Scope.{Scope}

-- the scope with datagrams of the second version
abbrev pub upgraded_scope : Scope → Scope
upgraded_scope scope = record scope { settings = as_version_2 scope.settings }

-- what is so of all of a list is so in other words
all_so : {A : Type 0} {P Q : A → Type 0} → ((a : A) → P a → Q a) → (items : List A) → AllByRecursion P items
    → AllByRecursion Q items
all_so f [] h = tt
all_so f (item ∷ items) h = (f item h.0, all_so f items h.1)

call_upgraded : (scope : Scope) (c : ScheduledCall) → IsCall scope c → IsCall (upgraded_scope scope) c
call_upgraded scope (call.Atomic batch) is = is
call_upgraded scope _ is = is

waiting_upgraded : (scope : Scope) (w : WaitingStep) → IsWaiting scope w → IsWaiting (upgraded_scope scope) w
waiting_upgraded scope (waiting.UntilWord offset number) is = (is.0, refl)
waiting_upgraded scope _ is = is

-- settings of the second version are those that they are upgraded to
second_same : (scope : Scope) → is_second scope ≡ true → scope ≡ upgraded_scope scope
second_same scope second =
    let version = eqb-true scope.settings.version 2 second in
    ap (λ (v : ℕ). record scope { settings = record scope.settings { version = v } }) version

vis_upgraded : (scope : Scope) (vis : VisText) → IsVis scope vis → IsVis (upgraded_scope scope) vis
vis_upgraded scope vis is =
    subst (λ (s : Scope). IsVis s vis) (second_same scope (vis_second scope vis is)) is

step_upgraded : (scope : Scope) (s : ScriptStep) → IsStep scope s → IsStep (upgraded_scope scope) s
step_upgraded scope (step.Call c) is = call_upgraded scope c is
step_upgraded scope (step.Vis vis) is = vis_upgraded scope vis is
step_upgraded scope (step.Collective c) is = is
step_upgraded scope (step.Waiting w) is = waiting_upgraded scope w is

script_upgraded : (scope : Scope) (s : NodeScript) → IsNodeScript scope s → IsNodeScript (upgraded_scope scope) s
script_upgraded scope s is = record {
  node = is.node;
  thread = is.thread;
  count = is.count;
  steps = all_so (step_upgraded scope) s.steps is.steps;
}

pub scripts_upgraded : (scope : Scope) (scripts : List NodeScript) → AllByRecursion (IsNodeScript scope) scripts
    → AllByRecursion (IsNodeScript (upgraded_scope scope)) scripts
scripts_upgraded scope scripts are = all_so (script_upgraded scope) scripts are

event_upgraded : (scope : Scope) (e : ScheduledEvent) → IsEvent scope e → IsEvent (upgraded_scope scope) e
event_upgraded scope (event.Call node thread c) is =
    ((is.0.0, (is.0.1.0, call_upgraded scope c is.0.1.1)), is.1)
event_upgraded scope (event.Vis node thread vis) is =
    ((is.0.0, (is.0.1.0, vis_upgraded scope vis is.0.1.1)), is.1)
event_upgraded scope _ is = is

timed_upgraded : (scope : Scope) (t : TimedEvent) → IsTimed scope t → IsTimed (upgraded_scope scope) t
timed_upgraded scope t is = record { time = is.time; event = event_upgraded scope t.event is.event }

pub collect_upgraded : (settings : Parameters) (collect : Option CollectArea) → IsCollectOrNone settings collect
    → IsCollectOrNone (as_version_2 settings) collect
collect_upgraded settings None is = tt
collect_upgraded settings (Some area) is = record { second = refl; area = is.area }

pub schedule_upgraded : (scope : Scope) (schedule : Option (List TimedEvent)) → IsScheduleOrNone scope schedule
    → IsScheduleOrNone (upgraded_scope scope) schedule
schedule_upgraded scope None is = tt
schedule_upgraded scope (Some events) is = record {
  count = is.count;
  rounds = is.rounds;
  rounds_of_nodes = is.rounds_of_nodes;
  events_are = all_so (timed_upgraded scope) events is.events_are;
}
