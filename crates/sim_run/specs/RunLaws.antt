-- What holds of the run of a job.
use Rattle.std.specs.Prelude.{ℕ, zero, suc, ◌≡◌, ◌+◌, ◌<◌, List, [], ◌∷◌, length, Some, slice_get, codes, decimal}
use Rattle.std.specs.Prelude.{true, is_some, map, ◌++◌}
use Rattle.law_collectives.specs.CollectiveLaws.{EndsOk, Try}
use Rattle.law_collectives.specs.Groups.{AreGroupEvents, GroupEvent, Other, opening_group}
use Rattle.node_rules.specs.EndpointLocal.{nothing_begun}
use Rattle.node_rules.specs.EndpointRules.{OtherCall, Records, RecordsEvent, at_the_opening, timed_event}
use Rattle.std.specs.List.{AllByRecursion}
use Rattle.spec_network.specs.World.{EventAt, IsAmong}
use Rattle.sim_world.specs.Settling.{WorldJob}
use Rattle.spec_network.specs.Headline.{Headline, IsGreatest, after_first}
use Rattle.law_transfers.specs.TransferLaws.{TransfersHold}
use Rattle.law_barrier.specs.BarrierLaws.{BarrierHolds}
use Rattle.law_atomics.specs.AtomicLaws.{AtomicsHold}
use Rattle.law_vis.specs.StridedLaws.{StridedHolds}
use Rattle.text_job.specs.declared.job.Job.{Job as JobState}
use Rattle.text_script.specs.Bodies.{script_meaning}
use Rattle.base_text.specs.LineTexts.{Line}
use Rattle.text_script.specs.Registration.{handlers_of, registry_of}
use Rattle.sim_run.specs.Schedules.{Nodes, collective_event, line_events, nodes_after, opening_nodes, scheduled_event}
use Rattle.sim_run.specs.Schedules.{world_job}
use Rattle.text_job.specs.JobReading.{lines_of}
use Rattle.text_steps.specs.declared.steps.CollectiveText.TheVariants as text
use Rattle.text_steps.specs.declared.steps.ScheduledEvent.{ScheduledEvent}
use Rattle.text_steps.specs.declared.steps.ScheduledEvent.TheVariants as scheduled
use Rattle.text_steps.specs.declared.steps.TimedEvent.{TimedEvent}
use Rattle.sim_run.specs.RunText.{event_words, run_events, run_lines, run_most}

-- ---- what the lines tell

-- the records after the first events of the run
abbrev pub records_at : JobState → (count : ℕ) → Records
records_at job count = after_first (world_job job) (run_events job) (at_the_opening job.settings) count

-- how many events the lines before that one have
abbrev pub events_before : WorldJob → List TimedEvent → Nodes → (line : ℕ) → ℕ
events_before job [] nodes line = 0
events_before job (e ∷ es) nodes zero = 0
events_before job (e ∷ es) nodes (suc line) =
    length (line_events job nodes e.time e.event) + events_before job es (nodes_after job nodes e) line

-- the place of the event of a line of a job's schedule among the events of its run
abbrev pub event_place : JobState → (line : ℕ) → ℕ
event_place j line = events_before (world_job j) (lines_of j.schedule) (opening_nodes j) line

-- a line of the schedule, counted from 0, that is one event: where the event stands in the run, and that the line of
-- the output at its place says its number and the answer to it there
pub record IsToldAt (job : JobState) (line : ℕ) (entry : TimedEvent) : Type 0 where
  pub place : ℕ
  pub place_is : place ≡ event_place job line
  pub event : RecordsEvent
  pub is : scheduled_event (records_at job place) entry.event ≡ Some event
  pub at : slice_get (run_events job) place ≡ Some (timed_event entry.time event)
  pub told : slice_get (run_lines job) line
      ≡ Some (decimal (line + 1) ∷ event_words (world_job job) (records_at job place) (timed_event entry.time event))

-- the line is one event, and not rounds of them, nor the calls that begin a transfer of many pieces or that a call of a
-- collective makes
abbrev pub IsOneEvent : ScheduledEvent → Type 0
IsOneEvent (scheduled.Vis node thread vis) = ⊥
IsOneEvent (scheduled.Collective node thread call) = ⊥
IsOneEvent (scheduled.Settle rounds) = ⊥
IsOneEvent _ = Unit {0}

-- so is each line of the schedule that is one event
abbrev pub LinesTell : JobState → Type 0
LinesTell job =
    (line : ℕ) (entry : TimedEvent) → slice_get (lines_of job.schedule) line ≡ Some entry → IsOneEvent entry.event
    → IsToldAt job line entry

-- the line of the schedule at that place, counted from 0, is this event, and the line of the output at that place says
-- these words to it
pub record TellsWords (job : JobState) (place : ℕ) (event : ScheduledEvent) (words : Line) : Type 0 where
  pub time : ℕ
  pub line : slice_get (lines_of job.schedule) place ≡ Some (record { time = time; event = event })
  pub told : slice_get (run_lines job) place ≡ Some (decimal (place + 1) ∷ words)

-- of the lines that deliver one request at most one is told that it ran
abbrev pub RanToldOnce : JobState → Type 0
RanToldOnce job =
    (from to number place other : ℕ) → TellsWords job place (scheduled.Request from to number) (codes "ran" ∷ [])
    → TellsWords job other (scheduled.Request from to number) (codes "ran" ∷ []) → place ≡ other

-- of the lines that deliver one reply at most one is told that it brought its request back
abbrev pub ReturnedToldOnce : JobState → Type 0
ReturnedToldOnce job =
    (from to number place other : ℕ) → TellsWords job place (scheduled.Reply from to number) (codes "returned" ∷ [])
    → TellsWords job other (scheduled.Reply from to number) (codes "returned" ∷ []) → place ≡ other

-- ---- in which order

-- the events of later lines stand later in the run
abbrev pub PlacesRise : JobState → Type 0
PlacesRise job =
    (line other : ℕ) (entry : TimedEvent) → slice_get (lines_of job.schedule) line ≡ Some entry
    → IsOneEvent entry.event → line < other → other < length (lines_of job.schedule)
    → event_place job line < event_place job other

-- ---- what a line that ends a collective tells

-- the events of a line, as those of a group
abbrev pub steps_at : WorldJob → Nodes → (time : ℕ) → ScheduledEvent → List GroupEvent
steps_at job nodes time (scheduled.Collective node thread call) =
    collective_event job.settings.nodes time node thread call ∷ []
steps_at job nodes time event = map Other (line_events job nodes time event)

-- those of the lines before that one
abbrev pub steps_before : WorldJob → List TimedEvent → Nodes → (line : ℕ) → List GroupEvent
steps_before job [] nodes line = []
steps_before job (e ∷ es) nodes zero = []
steps_before job (e ∷ es) nodes (suc line) =
    steps_at job nodes e.time e.event ++ steps_before job es (nodes_after job nodes e) line

abbrev pub run_steps : JobState → (line : ℕ) → List GroupEvent
run_steps j line = steps_before (world_job j) (lines_of j.schedule) (opening_nodes j) line

-- the try to end of a line, behind the lines before it
abbrev pub try_at : (j : JobState) (place time node thread dest : ℕ)
    → AreGroupEvents (world_job j) (opening_nodes j).area (opening_group j.settings) (run_steps j place)
    → node < j.settings.nodes → Try (world_job j) (opening_nodes j).area
try_at j place time node thread dest good there = record {
  events = run_steps j place;
  good = good;
  now = time;
  node = node;
  there = there;
  thread = thread;
  dest = dest;
}

-- Say that in the lines before one that tries to end a collective nothing but collectives wrote into their areas, and
-- nobody else asked for their handler. Where that line is told `ok`, all nodes have started that phase with one shape,
-- and the bytes at `dest` are the node's result
abbrev pub ResultsHold : JobState → Type 0
ResultsHold j =
    (place node thread dest : ℕ)
    (tells : TellsWords j place (scheduled.Collective node thread (text.Try dest)) (codes "ok" ∷ []))
    (good : AreGroupEvents (world_job j) (opening_nodes j).area (opening_group j.settings) (run_steps j place))
    (there : node < j.settings.nodes) → EndsOk (try_at j place tells.time node thread dest good there)

-- ---- all of them

-- its events are among the nodes of the job; the headline holds of it; its lines tell the answers of its events, in
-- their order, so that no line tells again that a request ran or came back; the most that the end lines tell of a node
-- is the greatest number of message buffers that it held; and in it, as in each run of a job with its settings and
-- handlers, what a synchronisation of transfers that answers Ok tells was done, each pair of bytes of a plan whose
-- pieces were synchronised was transferred exactly once, a try of the barrier that ends a phase tells the outcome of
-- the nodes' notifies, where the job has atomics, batches of operations act at one moment, in one history, and where it
-- has collectives, a line that is told that it ended one tells that the node has its result
pub record RunLaws (job : JobState) : Type 0 where
  pub among : AllByRecursion (λ (timed : EventAt OtherCall). IsAmong job.settings timed.event) (run_events job)
  pub headline : Headline (world_job job) (λ node. nothing_begun job.settings) (run_events job)
  pub told : LinesTell job
  pub rise : PlacesRise job
  pub ran : RanToldOnce job
  pub returned : ReturnedToldOnce job
  pub most : (node : ℕ)
      → IsGreatest (world_job job) (run_events job) (at_the_opening job.settings) node (run_most job node)
  pub transfers : TransfersHold job.settings (registry_of (handlers_of job)).table (script_meaning (handlers_of job))
  pub plans : StridedHolds job.settings (registry_of (handlers_of job)).table (script_meaning (handlers_of job))
  pub barrier : BarrierHolds job.settings (registry_of (handlers_of job)).table (script_meaning (handlers_of job))
  pub atomics : job.atomics ≡ true
      → AtomicsHold job.settings (registry_of (handlers_of job)).table (script_meaning (handlers_of job))
  pub collectives : is_some job.collect ≡ true → ResultsHold job
