-- The events of the code, as those of the records, and what a step of a world does.
use Rattle.std.specs.Prelude.{ℕ, ◌≡◌, ◌≢◌, List}
use Rattle.std.specs.List.{AllByRecursion}
use Rattle.node_rules.specs.EndpointLocal.{EndpointLocal, nothing_begun}
use Rattle.part_handlers.specs.Runs.{Meaning, IsLawfulMeaning}
use Rattle.spec_node.specs.declared.answer.Asked.TheVariants as asked
use Rattle.spec_node.specs.declared.answer.Ticked.TheVariants as ticked
use Rattle.spec_node.specs.NodeStep.{Job, OfRequest, OfTick}
use Rattle.spec_network.specs.World.{Asks, RequestComes, ReplyComes, Ticks, EventAt, world_answer, world_after}
use Rattle.spec_network.specs.World.{IsAmong, WorldAnswer as RecordsAnswer, OfNode}
use Rattle.spec_network.specs.MostHeld.{most_then}
use Rattle.spec_network.specs.PlainStep.{PlainStep}
use Rattle.spec_network.specs.Plain.{plain_of}
use Rattle.spec_network.specs.Headline.{Headline}
use Rattle.law_transfers.specs.TransferLaws.{TransfersHold}
use Rattle.law_barrier.specs.BarrierLaws.{BarrierHolds}
use Rattle.node_rules.specs.EndpointRules.{OtherCall, Records, RecordsEvent, timed_event, job_of}
use Rattle.sim_world.specs.WorldTold.{world_told}
use Rattle.spec_node.specs.Transition.{Transition}
use Rattle.node_rules.specs.declared.answer.Answer.{Answer}
use Rattle.sim_world.specs.WorldState.{WorldState}
use Rattle.sim_world.specs.Stands.{WorldStands}
use Rattle.node_rules.specs.Called.{called_at}
use Rattle.sim_world.specs.declared.event.WorldEvent.{WorldEvent}
use Rattle.sim_world.specs.declared.event.WorldEvent.TheVariants as event
use Rattle.sim_world.specs.declared.event.WorldAnswer.{WorldAnswer}
use Rattle.sim_world.specs.declared.event.WorldAnswer.TheVariants as answers

abbrev pub event_of : WorldEvent → RecordsEvent
event_of (event.Call node thread call) = called_at node thread call
event_of (event.Request from to number) = RequestComes from to number
event_of (event.Reply from to number) = ReplyComes from to number
event_of (event.Tick node) = Ticks node

-- what the handlers and calls do in this world
abbrev pub job_in : Meaning → WorldState → Job EndpointLocal OtherCall Answer
job_in meaning world = job_of world.settings world.table meaning

-- by any lawful handlers, each run from the opening by events among the nodes has the headline
abbrev pub RunsHaveTheHeadline : WorldState → Type 0
RunsHaveTheHeadline world =
    (meaning : Meaning) (events : List (EventAt OtherCall)) → IsLawfulMeaning meaning
    → AllByRecursion (λ (timed : EventAt OtherCall). IsAmong world.settings timed.event) events
    → Headline (job_in meaning world) (λ node. nothing_begun world.settings) events

-- by any lawful handlers, the laws of transfers and those of the barrier hold in each run from the opening
abbrev pub RunsHaveTheLaws : WorldState → Type 0
RunsHaveTheLaws world =
    (meaning : Meaning) → IsLawfulMeaning meaning
    → TransfersHold world.settings world.table meaning × BarrierHolds world.settings world.table meaning

-- this holds of all records for which the world stands, and of what the nodes held at most
abbrev pub ForItsRecords : WorldState → (Records → (ℕ → ℕ) → Type 0) → Type 0
ForItsRecords world Holds = (records : Records) (most : ℕ → ℕ) → WorldStands world records most → Holds records most

-- the event of a transition at its time
abbrev pub timed_of : Transition RecordsEvent WorldAnswer → EventAt OtherCall
timed_of step = timed_event step.now step.event

-- the answer is the records', and the world stands for the records' next ones
abbrev pub StepsOn : Meaning → WorldState → Transition RecordsEvent WorldAnswer → WorldState → Type 0
StepsOn meaning old step new = ForItsRecords old (λ records most.
    (step.answer ≡ world_told (world_answer (job_in meaning old) records (timed_of step)))
    × WorldStands new (world_after (job_in meaning old) records (timed_of step))
    (most_then old.settings (world_after (job_in meaning old) records (timed_of step)) most))

-- a request is accepted: one that a thread makes, or one that a tick sends for the first time
abbrev pub Accepts : RecordsAnswer Answer → Type 0
Accepts (OfNode (OfRequest (asked.Accepted to slot number))) = Unit {0}
Accepts (OfNode (OfTick (ticked.Notification at))) = Unit {0}
Accepts (OfNode (OfTick (ticked.Chunk at))) = Unit {0}
Accepts _ = ⊥

-- the event is a request of a node to another one, or a tick, which may send one
abbrev pub MaySend : RecordsEvent → Type 0
MaySend (Asks node ask) = ask.to ≢ node
MaySend (Ticks node) = Unit {0}
MaySend _ = ⊥

-- the event wants memory: all records for which the world stands accept a request by it to another node
pub record WantsMemory (meaning : Meaning) (old : WorldState) (event : EventAt OtherCall) : Type 0 where
  pub request : MaySend event.event
  pub accepts : ForItsRecords old (λ records most. Accepts (world_answer (job_in meaning old) records event))

-- so it does for all records for which it stood; where memory ran out, they accept, and it stands for the same records
abbrev pub StepsInWorld : Meaning → WorldState → Transition RecordsEvent WorldAnswer → WorldState → Type 0
StepsInWorld meaning old step new = elim step.answer [
  | answers.Node answer ↦ StepsOn meaning old step new
  | answers.Unsent ↦ StepsOn meaning old step new
  | answers.NoMemory ↦ WantsMemory meaning old (timed_of step)
      × ForItsRecords old (λ records most. WorldStands new records most)
]

-- read as a plain world, it steps by this event with this answer to what its next record is
abbrev pub StepsPlainlyOn : Meaning → WorldState → Transition RecordsEvent WorldAnswer → Type 0
StepsPlainlyOn meaning old step = ForItsRecords old (λ records most.
    (step.answer ≡ world_told (world_answer (job_in meaning old) records (timed_of step)))
    × PlainStep (job_in meaning old) (plain_of records) step.event
    (world_answer (job_in meaning old) records (timed_of step))
    (plain_of (world_after (job_in meaning old) records (timed_of step))))

-- so it does for all records for which it stood. Where memory ran out it doesn't step
abbrev pub StepsPlainly : Meaning → WorldState → Transition RecordsEvent WorldAnswer → Type 0
StepsPlainly meaning old step = elim step.answer [
  | answers.Node answer ↦ StepsPlainlyOn meaning old step
  | answers.Unsent ↦ StepsPlainlyOn meaning old step
  | answers.NoMemory ↦ Unit {0}
]
