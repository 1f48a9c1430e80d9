-- A call for the collectives of a node, as an event of the group.
use Rattle.std.proofs.Common.{◌≡◌, ℕ, true≢false, ap}
use Rattle.part_handlers.specs.Runs.{Meaning}
use Rattle.sim_world.specs.Events.{job_in}
use Rattle.part_collective_area.specs.declared.shape.Shape.{Shape}
use Rattle.node_collectives.specs.declared.answers.EndAnswer.{EndAnswer}
use Rattle.node_collectives.specs.declared.answers.EndAnswer.TheVariants as ended
use Rattle.node_collectives.specs.declared.answers.StartAnswer.{StartAnswer}
use Rattle.node_collectives.specs.declared.answers.StartAnswer.TheVariants as started
use Rattle.node_collectives.specs.declared.answers.StepAnswer.{StepAnswer}
use Rattle.node_collectives.specs.declared.answers.StepAnswer.TheVariants as stepped
use Rattle.part_collective_area.specs.Area.{Area}
use Rattle.law_collectives.specs.Groups.{End, Group, GroupAnswer, OfEnd, OfOther, OfStart, OfStep, Start, Step}
use Rattle.law_collectives.specs.Groups.{group_does}
use Rattle.sim_group.specs.GroupState.{GroupState}
use Rattle.sim_group.specs.Standing.{Does, DoesOf, DoesStart, DoesStep, IsLeft}
use Rattle.text_script.specs.declared.collective_texts.CollectiveAnswer.{CollectiveAnswer}
use Rattle.text_script.specs.declared.collective_texts.CollectiveAnswer.TheVariants as answers
use Rattle.text_steps.specs.declared.steps.CollectiveText.{CollectiveText}
use Rattle.text_steps.specs.declared.steps.CollectiveText.TheVariants as text
use Rattle.sim_run.specs.Schedules.{collective_answer, collective_event, nodes_of}
use Rattle.sim_run.specs.ScheduleRun.{CollectiveAsked, Collects}

-- the answer of a group, as that of a call of a line
abbrev as_told : GroupAnswer → CollectiveAnswer
as_told (OfStart answer) = answers.Start answer
as_told (OfStep answer) = answers.Step answer
as_told (OfEnd answer) = answers.End answer
as_told (OfOther answer) = answers.End ended.NotStarted

-- where the group did the event with this answer, the call is answered so
pub does_collect : (meaning : Meaning) (old new : GroupState) (area : Area) (group : Group) (most : ℕ → ℕ)
    (asked : CollectiveAsked) (answer : GroupAnswer)
    → DoesOf meaning old area group most
    (collective_event old.world.settings.nodes asked.time asked.node asked.thread asked.call) answer new
    → (as_told answer
    ≡ collective_answer (job_in meaning old.world) (nodes_of area group) asked.time asked.node asked.thread asked.call)
    × IsLeft (job_in meaning old.world) area group most
    (collective_event old.world.settings.nodes asked.time asked.node asked.thread asked.call) new
does_collect meaning old new area group most asked answer does = (by_call asked.call answer does.0, does.1)
  where
    by_call : (call : CollectiveText) (one : GroupAnswer)
        → one ≡ (group_does (job_in meaning old.world) area group
        (collective_event old.world.settings.nodes asked.time asked.node asked.thread call)).0
        → as_told one
        ≡ collective_answer (job_in meaning old.world) (nodes_of area group) asked.time asked.node asked.thread call
    by_call (text.Start shape from) one is = ap as_told is
    by_call text.Step one is = ap as_told is
    by_call (text.Try dest) one is = ap as_told is

-- what a line asks, by the thread of a node at a time
abbrev pub asks : (now node thread : ℕ) → CollectiveText → CollectiveAsked
asks now node thread call = record { time = now; node = node; thread = thread; call = call }

-- a start
pub start_collects : (meaning : Meaning) (old new : GroupState) (now node thread : ℕ) (shape : Shape) (from : ℕ)
    (answer : StartAnswer) → DoesStart meaning old (Start now node thread shape from) answer new
    → Collects (job_in meaning old.world) old (asks now node thread (text.Start shape from)) (answers.Start answer) new
start_collects meaning old new now node thread shape from started.NoMemory does = λ lacks. absurd (true≢false lacks)
start_collects meaning old new now node thread shape from started.Started does = λ lacks area group most stands.
    does_collect meaning old new area group most (asks now node thread (text.Start shape from)) _
    (does area group most stands)
start_collects meaning old new now node thread shape from started.Busy does = λ lacks area group most stands.
    does_collect meaning old new area group most (asks now node thread (text.Start shape from)) _
    (does area group most stands)
start_collects meaning old new now node thread shape from (started.BadArg argument) does = λ lacks area group most stands.
    does_collect meaning old new area group most (asks now node thread (text.Start shape from)) _
    (does area group most stands)
start_collects meaning old new now node thread shape from started.Exhausted does = λ lacks area group most stands.
    does_collect meaning old new area group most (asks now node thread (text.Start shape from)) _
    (does area group most stands)
start_collects meaning old new now node thread shape from (started.Forbidden rule) does = λ lacks area group most stands.
    does_collect meaning old new area group most (asks now node thread (text.Start shape from)) _
    (does area group most stands)
start_collects meaning old new now node thread shape from (started.LockBusy lock) does = λ lacks area group most stands.
    does_collect meaning old new area group most (asks now node thread (text.Start shape from)) _
    (does area group most stands)

-- a step
pub step_collects : (meaning : Meaning) (old new : GroupState) (now node thread : ℕ) (answer : StepAnswer)
    → DoesStep meaning old (Step now node thread) answer new
    → Collects (job_in meaning old.world) old (asks now node thread text.Step) (answers.Step answer) new
step_collects meaning old new now node thread stepped.NoMemory does = λ lacks. absurd (true≢false lacks)
step_collects meaning old new now node thread (stepped.Sent to) does = λ lacks area group most stands.
    does_collect meaning old new area group most (asks now node thread text.Step) _ (does area group most stands)
step_collects meaning old new now node thread stepped.Nothing does = λ lacks area group most stands.
    does_collect meaning old new area group most (asks now node thread text.Step) _ (does area group most stands)
step_collects meaning old new now node thread (stepped.Forbidden rule) does = λ lacks area group most stands.
    does_collect meaning old new area group most (asks now node thread text.Step) _ (does area group most stands)

-- a try to end
pub end_collects : (meaning : Meaning) (old new : GroupState) (now node thread dest : ℕ) (answer : EndAnswer)
    → Does meaning old (End now node thread dest) (OfEnd answer) new
    → Collects (job_in meaning old.world) old (asks now node thread (text.Try dest)) (answers.End answer) new
end_collects meaning old new now node thread dest answer does = λ lacks area group most stands.
    does_collect meaning old new area group most (asks now node thread (text.Try dest)) _ (does area group most stands)
