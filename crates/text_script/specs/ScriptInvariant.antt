-- What holds of each job that was made.
use Rattle.std.specs.Prelude.{◌≡◌, true, is_some, ℕ, ◌<◌, ◌≤◌, length, List, Option, Some, slice_get}
use Rattle.wire_message.specs.Parameters.{Parameters}
use Rattle.part_handlers.specs.declared.table.Entry.{Entry}
use Rattle.text_script.specs.Registration.{JobHandlers, registry_of}
use Rattle.text_script.specs.ScheduledCalls.{IsGiven}
use Rattle.text_job.specs.CollectAreas.{IsCollectOrNone}
use Rattle.text_job.specs.declared.job.CollectArea.{CollectArea}
use Rattle.text_job.specs.JobReading.{lines_of}
use Rattle.text_steps.specs.declared.steps.ScheduledEvent.{ScheduledEvent}
use Rattle.text_steps.specs.declared.steps.ScheduledEvent.TheVariants as scheduled
use Rattle.text_steps.specs.declared.steps.TimedEvent.{TimedEvent}
use Rattle.text_vis.specs.declared.vis.VisText.{VisText}

-- the thread may begin the pieces of this plan from that one on: it is one of the job's, as the plan is, and that piece
-- is at most their number
pub record MayBegin (settings : Parameters) (thread : ℕ) (vis : VisText) : Type 0 where
  pub thread_there : thread < settings.threads
  pub plan_of : vis.plan.settings ≡ settings
  pub from_in : vis.words.from ≤ length vis.plan.pieces

-- the nodes that an event names are there, and the thread that calls; that node to which a request goes may be missing.
-- The payload of a request is one of a schedule
abbrev pub IsWithin : Parameters → ScheduledEvent → Type 0
IsWithin settings (scheduled.Call node thread call) =
    (node < settings.nodes) × (thread < settings.threads) × IsGiven call
IsWithin settings (scheduled.Vis node thread vis) = (node < settings.nodes) × MayBegin settings thread vis
IsWithin settings (scheduled.Collective node thread call) = (node < settings.nodes) × (thread < settings.threads)
IsWithin settings (scheduled.Request from to number) = (from < settings.nodes) × (to < settings.nodes)
IsWithin settings (scheduled.Reply from to number) = (from < settings.nodes) × (to < settings.nodes)
IsWithin settings (scheduled.Tick node) = node < settings.nodes
IsWithin settings (scheduled.Settle rounds) = Unit {0}

-- so are those of each line
abbrev pub AreWithin : Parameters → List TimedEvent → Type 0
AreWithin settings events =
    (place : ℕ) (timed : TimedEvent) → slice_get events place ≡ Some timed → IsWithin settings timed.event

-- a call of collectives stands only where the job has an area of them
abbrev pub MayCollect : Option CollectArea → ScheduledEvent → Type 0
MayCollect collect (scheduled.Collective node thread call) = is_some collect ≡ true
MayCollect collect event = Unit {0}

-- so it is in each line
abbrev pub AllMayCollect : Option CollectArea → List TimedEvent → Type 0
AllMayCollect collect events =
    (place : ℕ) (timed : TimedEvent) → slice_get events place ≡ Some timed → MayCollect collect timed.event

-- the table is the one in which the handlers are registered, that of collectives exactly where the job has an area of
-- them, which it may have; and the nodes and threads that the lines of the schedule name are there
pub record IsMade (settings : Parameters) (collect : Option CollectArea) (handlers : JobHandlers)
    (table : List (Option Entry)) (schedule : Option (List TimedEvent)) : Type 0 where
  pub table_is : table ≡ (registry_of handlers).table
  pub collect_is : handlers.collect ≡ is_some collect
  pub area : IsCollectOrNone settings collect
  pub may_collect : AllMayCollect collect (lines_of schedule)
  pub within : AreWithin settings (lines_of schedule)
