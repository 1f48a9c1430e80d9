-- The nodes and threads that the lines of a job's schedule name are there.
use Rattle.std.proofs.Common.{◌≡◌, ℕ, zero, suc, ◌-◌, ◌<◌, ◌≤◌, List, [], ◌∷◌, length, Option, Some, None}
use Rattle.std.proofs.Common.{refl, sym, ap, subst, ◌∙◌, arith}
use Rattle.std.proofs.lemmas.Bool.{and_parts, leb-true}
use Rattle.std.specs.Prelude.{◌&&◌, is_none, nat_le}
use Rattle.std.specs.List.{AllByRecursion}
use Rattle.text_job.specs.declared.job.Job.{Job as JobState}
use Rattle.text_steps.specs.declared.steps.ScheduledEvent.{ScheduledEvent}
use Rattle.text_steps.specs.declared.steps.ScheduledEvent.TheVariants as event
use Rattle.text_steps.specs.declared.steps.TimedEvent.{TimedEvent}
use Rattle.text_calls.specs.declared.scheduled.ScheduledCall.{ScheduledCall}
use Rattle.text_calls.specs.declared.scheduled.ScheduledCall.TheVariants as calls
use Rattle.text_calls.specs.Calls.{IsCall}
use Rattle.text_steps.specs.Events.{IsEvent, IsTimed}
use Rattle.text_job.specs.JobReading.{lines_of}
use Rattle.text_job.specs.JobText.{IsJob, IsScheduleOrNone}
use Rattle.text_calls.specs.Versions.{is_second}
use Rattle.text_job.specs.Scopes.{scope_of}
use Rattle.text_vis.specs.VisLines.{IsVis, shape_fault, shape_plan, vis_plan}
use Rattle.text_vis.specs.declared.vis.VisShape.{VisShape}
use Rattle.text_vis.specs.declared.vis.VisShape.TheVariants as shapes
use Rattle.text_vis.specs.declared.vis.VisText.{VisText}
use Rattle.text_job.specs.Plans.{PlanState}
use Rattle.text_job.specs.Way.{Way}
use Rattle.wire_message.specs.Parameters.{Parameters}
use Rattle.text_calls.specs.declared.scope.Scope.{Scope}
use Rattle.text_script.specs.ScheduledCalls.{IsGiven}
use Rattle.text_script.specs.ScriptInvariant.{IsWithin, AreWithin, MayBegin, MayCollect, AllMayCollect}

-- a number up to one less than some is below them
below : (n count : ℕ) → 1 ≤ count → n ≤ count - 1 → n < count
below n count some low = omega (arith, some, low)

-- the payload of a call of a schedule is one of a schedule
pub call_given : (scope : Scope) (call : ScheduledCall) → IsCall scope call → IsGiven call
call_given scope (calls.Medium text) h = h.0.1.1.0
call_given scope (calls.Long text) h = h.0.1.1.0
call_given scope (calls.LongAsync text) h = h.0.1.1.0
call_given scope _ h = tt

-- the plan of such a line is one of the job's settings
plan_of_settings : (settings : Parameters) (way : Way) (to : ℕ) (shape : VisShape)
    → (shape_plan settings way to shape).settings ≡ settings
plan_of_settings settings way to (shapes.Strided remote local len levels) = refl
plan_of_settings settings way to (shapes.Indexed remote local) = refl

-- a thread that is there may begin the pieces of such a line
may_begin : (scope : Scope) (thread : ℕ) (vis : VisText) → thread < scope.settings.threads → IsVis scope vis
    → MayBegin scope.settings thread vis
may_begin scope thread vis there h =
    let words = vis.words in
    let plan = vis_plan scope.settings words in
    let fits = and_parts (is_second scope && is_none (shape_fault scope.settings words.way words.to words.shape))
    (nat_le words.from (length plan.pieces)) h.0.1 in
    record {
      thread_there = there;
      plan_of = ap (λ (plan : PlanState). plan.settings) h.1
          ∙ plan_of_settings scope.settings words.way words.to words.shape;
      from_in = subst (λ (plan : PlanState). words.from ≤ length plan.pieces) (sym h.1)
          (leb-true words.from (length plan.pieces) fits.1);
    }

-- an event in range is within
event_within : (scope : Scope) (e : ScheduledEvent) → 1 ≤ scope.settings.nodes → 1 ≤ scope.settings.threads
    → IsEvent scope e → IsWithin scope.settings e
event_within scope (event.Call node thread call) some thread_there h = (
  below node scope.settings.nodes some h.0.0.1,
  below thread scope.settings.threads thread_there h.0.1.0.1,
  call_given scope call h.0.1.1,
)
event_within scope (event.Vis node thread vis) some thread_there h = (
  below node scope.settings.nodes some h.0.0.1,
  may_begin scope thread vis (below thread scope.settings.threads thread_there h.0.1.0.1) h.0.1.1,
)
event_within scope (event.Collective node thread call) some thread_there h =
    (below node scope.settings.nodes some h.0.0.1, below thread scope.settings.threads thread_there h.0.1.0.1)
event_within scope (event.Request from to number) some thread_there h =
    (below from scope.settings.nodes some h.0.0.1, below to scope.settings.nodes some h.0.1.0.1)
event_within scope (event.Reply from to number) some thread_there h =
    (below from scope.settings.nodes some h.0.0.1, below to scope.settings.nodes some h.0.1.0.1)
event_within scope (event.Tick node) some thread_there h = below node scope.settings.nodes some h.0.0.1
event_within scope (event.Settle rounds) some thread_there h = tt

-- so are those of lines in range
lines_within : (scope : Scope) (es : List TimedEvent) → 1 ≤ scope.settings.nodes → 1 ≤ scope.settings.threads
    → AllByRecursion (IsTimed scope) es → AreWithin scope.settings es
lines_within scope [] some thread_there h i e at = absurd (cc)
lines_within scope (x ∷ xs) some thread_there h zero e at =
    let same : x ≡ e = cc in
    subst (λ (y : TimedEvent). IsWithin scope.settings y.event) same
    (event_within scope x.event some thread_there h.0.event)
lines_within scope (x ∷ xs) some thread_there h (suc i) e at =
    lines_within scope xs some thread_there h.1 i e at

-- and those of a schedule in range, where there is one
pub schedule_within : (scope : Scope) (schedule : Option (List TimedEvent)) → 1 ≤ scope.settings.nodes
    → 1 ≤ scope.settings.threads → IsScheduleOrNone scope schedule → AreWithin scope.settings (lines_of schedule)
schedule_within scope None some thread_there h i e at = absurd (cc)
schedule_within scope (Some es) some thread_there h i e at =
    lines_within scope es some thread_there h.events_are i e at

-- and those of a job
pub job_within : (job : JobState) → IsJob job → AreWithin job.settings (lines_of job.schedule)
job_within job h =
    schedule_within (scope_of job) job.schedule h.settings.some_node h.settings.some_thread h.schedule

-- ---- calls of collectives

-- an event in range is none, where the job has no area of them
event_may : (job : JobState) (e : ScheduledEvent) → IsEvent (scope_of job) e → MayCollect job.collect e
event_may job (event.Collective node thread call) h = h.0.1.1.1
event_may job (event.Call node thread call) h = tt
event_may job (event.Vis node thread vis) h = tt
event_may job (event.Request from to number) h = tt
event_may job (event.Reply from to number) h = tt
event_may job (event.Tick node) h = tt
event_may job (event.Settle rounds) h = tt

-- so it is in each line of a schedule
lines_may : (job : JobState) (es : List TimedEvent) → AllByRecursion (IsTimed (scope_of job)) es
    → AllMayCollect job.collect es
lines_may job [] h i e at = absurd (cc)
lines_may job (x ∷ xs) h zero e at =
    let same : x ≡ e = cc in
    subst (λ (y : TimedEvent). MayCollect job.collect y.event) same (event_may job x.event h.0.event)
lines_may job (x ∷ xs) h (suc i) e at = lines_may job xs h.1 i e at

schedule_may : (job : JobState) (schedule : Option (List TimedEvent)) → IsScheduleOrNone (scope_of job) schedule
    → AllMayCollect job.collect (lines_of schedule)
schedule_may job None h i e at = absurd (cc)
schedule_may job (Some es) h i e at = lines_may job es h.events_are i e at

-- and of a job
pub job_may_collect : (job : JobState) → IsJob job → AllMayCollect job.collect (lines_of job.schedule)
job_may_collect job h = schedule_may job job.schedule h.schedule
