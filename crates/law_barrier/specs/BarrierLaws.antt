-- The law of the barrier: what holds of every run of a job, where messages may be lost, come again and overtake others.
-- Origin: GASNet 1.8.1, extended API, barriers: gasnet_barrier_notify, gasnet_barrier_try. On which nodes a mismatch is
-- told is this project's profile: on all of them.
use Rattle.std.specs.Prelude.{ℕ, suc, ◌+◌, ◌==◌, ◌<◌, ◌≤◌, ℤ, ◌≡◌, ◌↔◌, ◌⊎◌, true, if◌then◌else◌, List, [], ◌∷◌, ◌++◌}
use Rattle.std.specs.Prelude.{Option}
use Rattle.std.specs.List.{AllByRecursion}
use Rattle.wire_message.specs.Parameters.{Parameters, AreInRange}
use Rattle.part_handlers.specs.declared.table.Entry.{Entry}
use Rattle.part_handlers.specs.Runs.{Meaning, IsLawfulMeaning}
use Rattle.spec_node.specs.NodeStep.{OfCall}
use Rattle.spec_network.specs.World.{Event, EventAt, Does, WorldAnswer, OfNode, IsAmong, world_answer, run, answers_of}
use Rattle.part_barrier.specs.declared.known.Notify.{Notify}
use Rattle.part_barrier.specs.declared.answer.Notified.TheVariants as told
use Rattle.part_barrier.specs.declared.answer.BarrierAnswer.{BarrierAnswer}
use Rattle.part_barrier.specs.declared.answer.BarrierAnswer.TheVariants as tried
use Rattle.part_barrier.specs.World.{Barriers, AllNotified, IsOtherTry, EndedByAll, AreCovered, is_mismatch}
use Rattle.node_rules.specs.BarrierCalls.{Notify as NotifyCall, TryBarrier, identifier}
use Rattle.node_rules.specs.EndpointRules.{OtherCall, OnBarrier, Records, timed_event, at_the_opening, job_of}
use Rattle.node_rules.specs.declared.answer.Answer.{Answer}
use Rattle.node_rules.specs.declared.answer.Answer.TheVariants as answers

-- ---- what is read of the records of a job

-- the barrier of each node: all that it notified, phase by phase, and how many phases it has ended
abbrev pub barriers_of : Records → Barriers
barriers_of records node = (records node).local.barrier

-- the phase in which a node is; the first one is phase 0, and an ended phase is followed by the next one
abbrev pub present_phase : Records → (node : ℕ) → ℕ
present_phase records node = (barriers_of records node).ended

-- the records after these events, from the opening on
abbrev pub records_after :
    Parameters → List (Option Entry) → Meaning → List (EventAt OtherCall) → Records
records_after settings table meaning events = run (job_of settings table meaning) events (at_the_opening settings)

-- each event is one of the nodes that are there: a call or a tick of one, or a delivery between two
abbrev pub AreAmong : Parameters → List (EventAt OtherCall) → Type 0
AreAmong settings events = AllByRecursion (λ (timed : EventAt OtherCall). IsAmong settings timed.event) events

-- ---- calls on the barrier

-- what a call notified: one of gasnet_barrier_notify that is answered Ok is the node's notify of its present phase
abbrev pub notify_told : OtherCall → WorldAnswer Answer → List Notify
notify_told (OnBarrier (NotifyCall id flags)) (OfNode (OfCall (answers.Notified told.Ok))) =
    record { id = identifier id; flags = flags } ∷ []
notify_told call answer = []

-- how many phases a call ended: one of gasnet_barrier_try that is answered GASNET_OK or
-- GASNET_ERR_BARRIER_MISMATCH ends the node's present phase
abbrev pub ends_told : OtherCall → WorldAnswer Answer → ℕ
ends_told (OnBarrier (TryBarrier id flags)) (OfNode (OfCall (answers.Barrier tried.Ok))) = 1
ends_told (OnBarrier (TryBarrier id flags)) (OfNode (OfCall (answers.Barrier tried.Mismatch))) = 1
ends_told call answer = 0

-- what an event notified for this node
abbrev pub notified_by : (node : ℕ) → Event OtherCall → WorldAnswer Answer → List Notify
notified_by node (Does other thread call) answer = if other == node then notify_told call answer else []
notified_by node event answer = []

-- how many phases of this node it ended
abbrev pub ended_by : (node : ℕ) → Event OtherCall → WorldAnswer Answer → ℕ
ended_by node (Does other thread call) answer = if other == node then ends_told call answer else 0
ended_by node event answer = 0

-- the notifies of a node among these events with their answers, in order
abbrev pub notifies_in : (node : ℕ) → List (EventAt OtherCall) → List (WorldAnswer Answer) → List Notify
notifies_in node (timed ∷ events) (answer ∷ given) =
    notified_by node timed.event answer ++ notifies_in node events given
notifies_in node events given = []

-- how many phases of a node they ended
abbrev pub ended_in : (node : ℕ) → List (EventAt OtherCall) → List (WorldAnswer Answer) → ℕ
ended_in node (timed ∷ events) (answer ∷ given) =
    ended_by node timed.event answer + ended_in node events given
ended_in node events given = 0

-- ---- a try

-- a thread of a node tries the barrier at this time (gasnet_barrier_try)
pub record BarrierTry : Type 0 where
  pub now : ℕ
  pub node : ℕ
  pub thread : ℕ
  pub id : ℤ
  pub flags : ℕ

abbrev pub try_event : BarrierTry → EventAt OtherCall
try_event try = timed_event try.now (Does try.node try.thread (OnBarrier (TryBarrier try.id try.flags)))

-- the answer ends the node's present phase: it is GASNET_OK, or GASNET_ERR_BARRIER_MISMATCH
abbrev pub EndsPhase : BarrierAnswer → Type 0
EndsPhase answer = (answer ≡ tried.Ok) ⊎ (answer ≡ tried.Mismatch)

-- what such an answer says of the records on which the try fell
pub record TellsOutcome (settings : Parameters) (records : Records) (try : BarrierTry) (answer : BarrierAnswer)
    : Type 0 where
  -- all nodes have notified the phase
  pub all : AllNotified settings.nodes (barriers_of records) (present_phase records try.node)
  -- it is a mismatch exactly where the notifies of all nodes together are one, or where the try's flags, or its
  -- identifier where it is named, aren't those of the node's own notify
  pub mismatch : (answer ≡ tried.Mismatch)
      ↔ ((is_mismatch settings.nodes (barriers_of records) (present_phase records try.node) ≡ true)
      ⊎ IsOtherTry (barriers_of records try.node) (identifier try.id) try.flags)

-- ---- the law

-- of every run by events among the nodes, where handlers do this, registered in this table
pub record BarrierHolds (settings : Parameters) (table : List (Option Entry)) (meaning : Meaning) : Type 0 where
  -- a try that ends a phase tells the outcome of all nodes' notifies
  pub tells : (events : List (EventAt OtherCall)) (try : BarrierTry) (answer : BarrierAnswer)
      → AreAmong settings events → IsAmong settings (try_event try).event → EndsPhase answer
      → world_answer (job_of settings table meaning) (records_after settings table meaning events) (try_event try)
      ≡ OfNode (OfCall (answers.Barrier answer))
      → TellsOutcome settings (records_after settings table meaning events) try answer
  -- the outcome of a phase that all nodes have notified is the same ever after
  pub final : (events later : List (EventAt OtherCall)) (phase : ℕ)
      → AreAmong settings events → AreAmong settings later
      → AllNotified settings.nodes (barriers_of (records_after settings table meaning events)) phase
      → is_mismatch settings.nodes (barriers_of (records_after settings table meaning (events ++ later))) phase
      ≡ is_mismatch settings.nodes (barriers_of (records_after settings table meaning events)) phase
  -- each phase that a node has ended was notified by all nodes
  pub ended : (events : List (EventAt OtherCall))
      → AreAmong settings events
      → EndedByAll settings.nodes (barriers_of (records_after settings table meaning events))
  -- each notification that a node heard or sent tells of nodes that have notified its phase, and exactly what they
  -- notified
  pub notifications : (events : List (EventAt OtherCall))
      → AreAmong settings events
      → AreCovered settings.nodes (barriers_of (records_after settings table meaning events))
  -- no node is two phases ahead of another
  pub abreast : (events : List (EventAt OtherCall)) (node other : ℕ)
      → AreAmong settings events → node < settings.nodes → other < settings.nodes
      → present_phase (records_after settings table meaning events) node
      ≤ suc (present_phase (records_after settings table meaning events) other)
  -- the notifies of a node, of phase 0, of phase 1 and so on, are its calls that were answered Ok, in order
  pub notifies : (events : List (EventAt OtherCall)) (node : ℕ)
      → AreAmong settings events
      → (barriers_of (records_after settings table meaning events) node).notifies
      ≡ notifies_in node events (answers_of (job_of settings table meaning) events (at_the_opening settings))
  -- the phases that it has ended are those that its tries ended
  pub phases : (events : List (EventAt OtherCall)) (node : ℕ)
      → AreAmong settings events
      → present_phase (records_after settings table meaning events) node
      ≡ ended_in node events (answers_of (job_of settings table meaning) events (at_the_opening settings))

-- it holds of each job whose settings are within their limits, and whose handlers are lawful
abbrev pub InEveryBarrierJob : Type 0
InEveryBarrierJob =
    (settings : Parameters) (table : List (Option Entry)) (meaning : Meaning)
    → AreInRange settings → IsLawfulMeaning meaning → BarrierHolds settings table meaning
