-- What the node of an endpoint does: with messages, by every call, and by ticks; and its answers, as the code tells
-- them.
-- Origin: GASNet 1.8.1, core API, extended API. That transfers and barriers go by requests of the library's own, which
-- ticks send, is this project's profile.
use Rattle.std.specs.Prelude.{ℕ, zero, suc, ◌+◌, ◌==◌, nat_lt, Bool, ◌&&◌, if◌then◌else◌, Result, Ok, Err, List}
use Rattle.std.specs.Prelude.{Option, None, Some}
use Rattle.wire_message.specs.Parameters.{Parameters}
use Rattle.wire_message.specs.Content.{Content}
use Rattle.wire_message.specs.declared.notification.BarrierNotification.{BarrierNotification}
use Rattle.part_handlers.specs.declared.table.Entry.{Entry}
use Rattle.part_handlers.specs.declared.rules.Forbidden.{Forbidden}
use Rattle.part_handlers.specs.declared.rules.CallKind.TheVariants as kinds
use Rattle.part_handlers.specs.Runs.{Meaning}
use Rattle.spec_node.specs.declared.answer.Asked.{Asked}
use Rattle.spec_node.specs.declared.answer.Asked.TheVariants as asked
use Rattle.spec_node.specs.declared.answer.SlotRef.{SlotRef}
use Rattle.spec_node.specs.declared.answer.Ticked.{Ticked}
use Rattle.spec_node.specs.declared.answer.Ticked.TheVariants as ticked
use Rattle.spec_node.specs.Behaviour.{Behaviour, Contact, Sending}
use Rattle.spec_node.specs.NodeStep.{NodeBehaviour, Job, NodeEvent, NodeAnswer, OfRequest, OfCall, OfDelivery, OfTick}
use Rattle.spec_node.specs.Transition.{Transition}
use Rattle.spec_network.specs.World.{World, opening, Event, EventAt}
use Rattle.part_barrier.specs.Record.{BarrierRecord, SentNotification, hear, notification_to, send}
use Rattle.part_transfers.specs.declared.operation.Next.{Next}
use Rattle.part_transfers.specs.declared.operation.Transfer.TheVariants as transfers
use Rattle.part_transfers.specs.Operation.{target, next_chunk, issue, come_back}
use Rattle.node_core.specs.Kept.{Local, segment_of}
use Rattle.node_core.specs.ClientRules.{rules}
use Rattle.node_core.specs.Library.{Work, Put, Get, Memset, Notification, work_content, notification_said}
use Rattle.node_core.specs.Library.{notification_handler}
use Rattle.node_rules.specs.EndpointLocal.{EndpointLocal, with_core, nothing_begun}
use Rattle.node_rules.specs.CoreCalls.{LocalCall, local_does}
use Rattle.node_rules.specs.TransferCalls.{TransferCall, transfer_kind, transfer_does, Caller}
use Rattle.node_rules.specs.BarrierCalls.{BarrierCall, barrier_does, has_ranges}
use Rattle.node_rules.specs.declared.answer.Answer.{Answer}
use Rattle.node_rules.specs.declared.answer.Answer.TheVariants as answers

-- a call of a thread that makes no request
pub data OtherCall : Type 0 where
  OnCore : LocalCall → OtherCall  -- on what a core keeps
  OnTransfers : TransferCall → OtherCall
  OnBarrier : BarrierCall → OtherCall

-- ---- records, and their events

-- the records of nodes that keep what an endpoint keeps
abbrev pub Records : Type 0
Records = World EndpointLocal

-- the events of these records, and those of one node
abbrev pub RecordsEvent : Type 0
RecordsEvent = Event OtherCall

abbrev pub RecordEvent : Type 0
RecordEvent = NodeEvent OtherCall

abbrev pub timed_event : (now : ℕ) → RecordsEvent → EventAt OtherCall
timed_event now event = record { now = now; event = event }

-- an event with its time and its answer
abbrev pub transition : {Event Answer : Type 0} → (now : ℕ) → Event → Answer → Transition Event Answer
transition now event answer = record { now = now; event = event; answer = answer }

-- nodes that asked and ran nothing
abbrev pub at_the_opening : Parameters → Records
at_the_opening settings = opening (λ node. nothing_begun settings)

-- ---- what ticks send

-- the notification of the barrier that goes to the least node from this one on, among so many, that can be asked
abbrev pub notification_among : (due : ℕ → Option BarrierNotification) → (can : ℕ → Bool) → (node many : ℕ)
    → Option SentNotification
notification_among due can node zero = None
notification_among due can node (suc many) =
    if can node then notification_or node (due node) (notification_among due can (suc node) many)
    else notification_among due can (suc node) many
  where
    notification_or : (node : ℕ) → Option BarrierNotification → Option SentNotification → Option SentNotification
    notification_or node None later = later
    notification_or node (Some notification) later = Some (record { to = node; notification = notification })

-- the notification that the node `me` sends next; what is no node sends none
abbrev pub next_notification : Parameters → (me : ℕ) → (can : ℕ → Bool) → BarrierRecord → Option SentNotification
next_notification settings me can barrier =
    if nat_lt me settings.nodes then notification_among (notification_to settings.nodes me barrier) can 0 settings.nodes
    else None

-- what a chunk asks of its target
abbrev pub chunk_work : Next → Work
chunk_work next = elim next.transfer [
  | transfers.Put to remote local len ↦ Put (local + next.start) (remote + next.start) next.len
  | transfers.Get to remote local len ↦ Get (local + next.start) (remote + next.start) next.len
  | transfers.Memset to remote len byte ↦ Memset (remote + next.start) next.len byte
]

-- the library's request that says this work, where the local segment has these bytes
abbrev pub sending_of : Parameters → (segment : List ℕ) → (to : ℕ) → Work → Sending
sending_of settings segment to work =
    record { to = to; content = work_content settings.version segment work }

abbrev pub sends_chunk : Parameters → (segment : List ℕ) → Option Next → Option Sending
sends_chunk settings segment None = None
sends_chunk settings segment (Some next) =
    Some (sending_of settings segment (target next.transfer) (chunk_work next))

-- a notification goes before a chunk
abbrev pub notification_first : Parameters → (segment : List ℕ) → Option SentNotification → Option Next → Option Sending
notification_first settings segment None next = sends_chunk settings segment next
notification_first settings segment (Some sent) next =
    Some (sending_of settings segment sent.to (Notification sent.notification))

-- what a tick sends of the node's own accord: the notification of the barrier that is due to the least node that can be
-- asked, else the next chunk of the oldest operation whose target can be asked
abbrev pub next_sending : Parameters → (me : ℕ) → (can : ℕ → Bool) → EndpointLocal → Option Sending
next_sending settings me can local =
    notification_first settings (segment_of settings local.core) (next_notification settings me can local.barrier)
    (next_chunk can 1 local.operations)

-- what is left where that was accepted
abbrev pub after_sent : Parameters → Contact → Content → EndpointLocal → EndpointLocal
after_sent settings contact content local =
    if content.handler == notification_handler
    then record local {
      barrier = send local.barrier contact.peer (notification_to settings.nodes contact.me local.barrier contact.peer);
    }
    else record local {
      operations = issue contact.peer contact.slot contact.number content.payload local.operations;
    }

-- how the tick is answered
abbrev pub sent_as : Content → SlotRef → Ticked
sent_as content at = if content.handler == notification_handler then ticked.Notification at else ticked.Chunk at

-- ---- messages

-- what a request of the library tells the barrier: a notification, which is heard where its numbers are in range
abbrev pub after_notification : Parameters → Content → BarrierRecord → BarrierRecord
after_notification settings content barrier =
    let notification = notification_said settings.version content.args in
    if (content.handler == notification_handler) && has_ranges notification then hear barrier notification else barrier

-- what a node does with messages, by the handlers of its table and the library's own
abbrev pub endpoint_rules : Parameters → List (Option Entry) → Meaning → Behaviour EndpointLocal
endpoint_rules settings table meaning =
    let own = rules settings table meaning in
    record {
      judges = λ thread kind local. own.judges thread kind local.core;
      notes = λ thread forbidden local. with_core local (own.notes thread forbidden local.core);
      faults = own.faults;
      says = λ asking local. own.says asking local.core;
      refuses = own.refuses;
      busy = λ content local. own.busy content local.core;
      waits = λ content local. own.waits content local.core;
      run = λ contact content local.
          let out = own.run contact content local.core in
          (record local { core = out.0; barrier = after_notification settings content local.barrier }, out.1);
      take = λ contact content local. record local {
        core = own.take contact content local.core;
        operations = come_back contact.peer contact.slot contact.number local.operations;
      };
      runs_as = own.runs_as;
      next = next_sending settings;
      issued = after_sent settings;
      sends_as = sent_as;
    }

-- ---- calls

-- a call by how the rule table judges it: this answer, and what it leaves, where it is allowed; else a violation is
-- noted
abbrev pub unless_forbidden : Behaviour EndpointLocal → (thread : ℕ) → Result (Unit {0}) Forbidden
    → EndpointLocal → Answer × EndpointLocal → Answer × EndpointLocal
unless_forbidden behaviour thread (Ok allowed) local outcome = outcome
unless_forbidden behaviour thread (Err forbidden) local outcome =
    (answers.Forbidden forbidden, behaviour.notes thread forbidden local)

-- what a call on the barrier answers and leaves
abbrev pub with_barrier : EndpointLocal → Answer × BarrierRecord → Answer × EndpointLocal
with_barrier local outcome = (outcome.0, record local { barrier = outcome.1 })

-- and one on what a core keeps
abbrev pub with_core_outcome : EndpointLocal → Answer × Local → Answer × EndpointLocal
with_core_outcome local outcome = (outcome.0, with_core local outcome.1)

-- the calls that make no request: their answers, and what they leave
abbrev pub does_call : Behaviour EndpointLocal → Behaviour Local → Caller → OtherCall → EndpointLocal
    → Answer × EndpointLocal
does_call behaviour own caller (OnCore call) local =
    with_core_outcome local (local_does caller.settings own caller.thread call local.core)
does_call behaviour own caller (OnTransfers call) local =
    unless_forbidden behaviour caller.thread (behaviour.judges caller.thread (transfer_kind call) local) local
    (transfer_does caller call local)
does_call behaviour own caller (OnBarrier call) local =
    unless_forbidden behaviour caller.thread (behaviour.judges caller.thread kinds.Barrier local) local
    (with_barrier local (barrier_does caller call local.barrier))

-- what a node does by these handlers, registered in this table
abbrev pub all_rules : Parameters → List (Option Entry) → Meaning → NodeBehaviour EndpointLocal OtherCall Answer
all_rules settings table meaning = record {
  messages = endpoint_rules settings table meaning;
  does = λ me exhausted thread. does_call (endpoint_rules settings table meaning) (rules settings table meaning)
      (record { settings = settings; me = me; thread = thread; exhausted = exhausted });
}

-- the job of these settings, this table and these handlers
abbrev pub job_of : Parameters → List (Option Entry) → Meaning → Job EndpointLocal OtherCall Answer
job_of settings table meaning = record { settings = settings; behaviour = all_rules settings table meaning }

-- ---- answers, as the code tells them

-- to a request: a call that the rule table forbids is answered alike, whatever the call
abbrev pub asked_answer : Asked → Answer
asked_answer (asked.Forbidden forbidden) = answers.Forbidden forbidden
asked_answer answer = answers.Asked answer

-- of a node
abbrev pub answer_told : NodeAnswer Answer → Answer
answer_told (OfRequest answer) = asked_answer answer
answer_told (OfCall answer) = answer
answer_told (OfDelivery answer) = answers.Delivered answer
answer_told (OfTick answer) = answers.Ticked answer
