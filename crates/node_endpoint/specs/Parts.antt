-- The two parts of an endpoint, its core and what it keeps of the extended API, and what the second one's calls do.
use Rattle.std.specs.Prelude.{ℕ, ◌≡◌, ◌≢◌, ◌<◌, ◌≤◌, true, List, Option, None, Some, length}
use Rattle.wire_message.specs.Parameters.{credits_of}
use Rattle.wire_message.specs.declared.notification.BarrierNotification.{BarrierNotification}
use Rattle.part_handlers.specs.Runs.{Meaning, IsLawfulMeaning}
use Rattle.part_handlers.specs.declared.rules.CallKind.{CallKind}
use Rattle.part_handlers.specs.declared.rules.CallKind.TheVariants as kinds
use Rattle.spec_node.specs.Record.{Node}
use Rattle.spec_node.specs.Behaviour.{Sending}
use Rattle.spec_node.specs.Step.{with_local, is_exhausted, can_ask, after_sending, tick_answer, Sends}
use Rattle.spec_node.specs.NodeStep.{site_of}
use Rattle.spec_node.specs.Under.{under}
use Rattle.spec_node.specs.declared.answer.Delivered.{Delivered}
use Rattle.spec_node.specs.declared.answer.Delivered.TheVariants as delivered
use Rattle.spec_node.specs.declared.answer.SlotRef.{SlotRef}
use Rattle.spec_node.specs.declared.answer.Ticked.{Ticked}
use Rattle.spec_node.specs.declared.answer.Why.{Why}
use Rattle.part_barrier.specs.Record.{BarrierRecord, SentNotification, hear}
use Rattle.part_barrier.specs.Stands.{BarrierStands}
use Rattle.part_transfers.specs.Operation.{Operation, come_back}
use Rattle.part_transfers.specs.Stands.{room_of}
use Rattle.part_transfers.specs.Stands.{Stands as TransfersStand}
use Rattle.part_transfers.specs.declared.operation.Mode.{Mode}
use Rattle.part_transfers.specs.declared.operation.Transfer.{Transfer}
use Rattle.node_core.specs.Kept.{segment_of}
use Rattle.node_core.specs.Library.{Work, WorkFits}
use Rattle.node_core.specs.CoreState.{CoreState}
use Rattle.node_core.specs.Sizes.{HasSegment}
use Rattle.node_core.specs.Stands.{CoreStands}
use Rattle.node_core.specs.CoreContracts.{IsSameNode}
use Rattle.node_rules.specs.EndpointLocal.{EndpointLocal, core_of}
use Rattle.node_rules.specs.EndpointRules.{OtherCall, OnCore, OnTransfers, OnBarrier, with_barrier, sending_of}
use Rattle.node_rules.specs.EndpointRules.{transition}
use Rattle.node_rules.specs.CoreCalls.{Poll, Attempt}
use Rattle.node_rules.specs.TransferCalls.{Caller, transfer_does, transfer_kind, begin_says, after_beginning}
use Rattle.node_rules.specs.BarrierCalls.{barrier_does, has_ranges}
use Rattle.node_rules.specs.Called.{Meant, Requests, Performs, event_of_call}
use Rattle.node_rules.specs.declared.call.Call.{Call}
use Rattle.node_rules.specs.declared.answer.Answer.{Answer}
use Rattle.node_rules.specs.declared.answer.Answer.TheVariants as answers
use Rattle.node_rules.specs.declared.answer.Begun.{Begun}
use Rattle.node_endpoint.specs.declared.extended.Extended.{Extended}
use Rattle.node_endpoint.specs.EndpointState.{EndpointState, EndpointStands, ForItsRecord, NodeSteps, job_here}

-- the endpoint of these two parts
abbrev pub endpoint_of : CoreState → Extended → EndpointState
endpoint_of core extended = record {
  core = core;
  transfers = extended.transfers;
  regions = extended.regions;
  registers = extended.registers;
  barrier = extended.barrier;
}

-- it stands for some record
abbrev pub HasRecord : EndpointState → Type 0
HasRecord endpoint = (node : Node EndpointLocal) × EndpointStands endpoint node

-- what holds of the two parts of every endpoint
pub record IsWhole (core : CoreState) (extended : Extended) : Type 0 where
  pub nodes : extended.nodes ≡ core.settings.nodes
  pub me_is : extended.me ≡ core.me
  pub few : core.settings.nodes ≤ 256
  pub me_in : core.me < core.settings.nodes
  pub segment : HasSegment core
  pub threads : length extended.regions ≡ core.settings.threads
  pub barrier_nodes : extended.barrier.nodes ≡ core.settings.nodes
  pub room_nodes : (room_of extended.transfers).nodes ≡ core.settings.nodes
  -- the transfers have room for each slot of requests to another node
  pub room : (to : ℕ) → to < core.settings.nodes → to ≢ core.me
      → credits_of core.settings core.me to ≤ (room_of extended.transfers).credits
  pub record_ : HasRecord (endpoint_of core extended)

-- the sizes are the same
pub record IsSameExtended (old new : Extended) : Type 0 where
  pub nodes : new.nodes ≡ old.nodes
  pub me_is : new.me ≡ old.me
  pub threads : length new.regions ≡ length old.regions
  pub room : room_of new.transfers ≡ room_of old.transfers

-- what the endpoint keeps is what its node's record gives
pub record EndpointKeeps (endpoint : EndpointState) (node : Node EndpointLocal) : Type 0 where
  pub core : CoreStands endpoint.core (under core_of node)
  pub transfers : TransfersStand endpoint.transfers node.local.operations
  pub regions_are : endpoint.regions ≡ node.local.regions
  pub registers_are : endpoint.registers ≡ node.local.registers
  pub barrier : BarrierStands endpoint.core.settings.nodes endpoint.core.me endpoint.barrier node.local.barrier

-- ---- calls that the rule table allows

pub record Parts : Type 0 where
  pub core : CoreState
  pub extended : Extended

abbrev pub whole : Parts → EndpointState
whole parts = endpoint_of parts.core parts.extended

-- a thread of the node
abbrev pub caller_in : CoreState → Node EndpointLocal → (thread : ℕ) → Caller
caller_in core node thread = record {
  settings = core.settings;
  me = core.me;
  thread = thread;
  exhausted = is_exhausted core.settings node;
}

-- what a call answers and leaves
abbrev pub EndpointOutcome : Type 0
EndpointOutcome = Caller → EndpointLocal → Answer × EndpointLocal

-- a call of a thread with this outcome
pub record PartDoes (old : Parts) (thread : ℕ) (outcome : EndpointOutcome) (answer : Answer) (new : Parts)
    : Type 0 where
  pub same : IsSameNode old.core new.core
  pub frame : IsSameExtended old.extended new.extended
  pub steps : ForItsRecord (whole old) (λ node.
      (answer ≡ (outcome (caller_in old.core node thread) node.local).0)
      × EndpointKeeps (whole new) (with_local node (outcome (caller_in old.core node thread) node.local).1))

-- the beginning of a transfer by a thread
pub record Beginning : Type 0 where
  pub thread : ℕ
  pub transfer : Transfer
  pub mode : Mode

pub record PartBegins (old : Parts) (beginning : Beginning) (says : Begun) (new : Parts) : Type 0 where
  pub same : IsSameNode old.core new.core
  pub frame : IsSameExtended old.extended new.extended
  pub steps : ForItsRecord (whole old) (λ node.
      let caller = caller_in old.core node beginning.thread in
      (says ≡ begin_says caller beginning.transfer node.local.operations)
      × EndpointKeeps (whole new)
      (with_local node (after_beginning caller beginning.transfer beginning.mode says node.local)))

-- as which kind of call the rule table judges a call that makes no request, if it does
abbrev pub judged_as : OtherCall → Option CallKind
judged_as (OnCore Poll) = Some kinds.Poll
judged_as (OnCore (Attempt kind)) = Some kind
judged_as (OnCore call) = None
judged_as (OnTransfers call) = Some (transfer_kind call)
judged_as (OnBarrier call) = Some kinds.Barrier

-- the same of a thread's call
abbrev pub judged_kind : Meant → Option CallKind
judged_kind (Requests to asking) = None
judged_kind (Performs call) = judged_as call

-- what such a call does where it is allowed
abbrev pub allowed_does : Meant → EndpointOutcome
allowed_does (Performs (OnTransfers call)) caller local = transfer_does caller call local
allowed_does (Performs (OnBarrier call)) caller local = with_barrier local (barrier_does caller call local.barrier)
allowed_does (Performs (OnCore (Attempt kind))) caller local = (answers.Allowed, local)
allowed_does _ caller local = (answers.Polled, local)

-- ---- deliveries

-- the operations after a delivery was answered so
abbrev pub after_answer : Delivered → List Operation → List Operation
after_answer (delivered.Returned to slot number) operations = come_back to slot number operations
after_answer _ operations = operations

-- and the barrier
abbrev pub heard_by : Delivered → BarrierRecord → BarrierRecord
heard_by (delivered.Notified at notification) barrier = hear barrier notification
heard_by _ barrier = barrier

pub record Hears (old : Extended) (answer : Delivered) (new : Extended) : Type 0 where
  pub frame : IsSameExtended old new
  pub regions : new.regions ≡ old.regions
  pub registers : new.registers ≡ old.registers
  pub refused : (reason : Why) → answer ≡ delivered.Refused reason → new ≡ old
  -- a notification is one of the code's, so its numbers have their ranges
  pub ranged : (at : SlotRef) (notification : BarrierNotification) → answer ≡ delivered.Notified at notification
      → has_ranges notification ≡ true
  pub transfers : (operations : List Operation) → TransfersStand old.transfers operations
      → TransfersStand new.transfers (after_answer answer operations)
  pub barrier : (nodes me : ℕ) (kept : BarrierRecord) → BarrierStands nodes me old.barrier kept
      → BarrierStands nodes me new.barrier (heard_by answer kept)

-- ---- ticks

-- the node can be asked
abbrev pub can_ask_of : EndpointState → Node EndpointLocal → (to : ℕ) → Type 0
can_ask_of endpoint node to =
    (meaning : Meaning) → can_ask (site_of (job_here meaning endpoint) endpoint.core.me) node to ≡ true

-- some work may be asked of a node
pub record CanSend (core : CoreState) (extended : Extended) (to : ℕ) (work : Work) : Type 0 where
  pub there : to < core.settings.nodes
  pub other : to ≢ core.me
  pub fits : WorkFits core.settings work
  pub can : ForItsRecord (endpoint_of core extended) (λ node. can_ask_of (endpoint_of core extended) node to)

-- the notification that was found, with the node that it goes to
abbrev pub found_notification : Option (ℕ × BarrierNotification) → Option SentNotification
found_notification None = None
found_notification (Some found) = Some (record { to = found.0; notification = found.1 })

-- this work is asked of a node at this time, by a tick
pub record SentWork : Type 0 where
  pub now : ℕ
  pub to : ℕ
  pub work : Work

-- it is the request of the tick
abbrev pub sending_in : EndpointState → Node EndpointLocal → SentWork → Sending
sending_in endpoint node sent =
    sending_of endpoint.core.settings (segment_of endpoint.core.settings node.local.core) sent.to sent.work

pub record PartSends (old : Parts) (sent : SentWork) (answer : Ticked) (new : Parts) : Type 0 where
  pub same : IsSameNode old.core new.core
  pub frame : IsSameExtended old.extended new.extended
  pub steps : (meaning : Meaning) → ForItsRecord (whole old) (λ node.
      let job = job_here meaning (whole old) in
      let sending = sending_in (whole old) node sent in
      (answer ≡ tick_answer job.behaviour.messages node (Sends sending))
      × EndpointKeeps (whole new) (after_sending (site_of job old.core.me) node sent.now sending))

-- ---- an endpoint's own calls

-- the call is the step of its record, at any time and with any lawful handlers
abbrev pub CallSteps : EndpointState → (thread : ℕ) → Call → Answer → EndpointState → Type 0
CallSteps old thread call answer new =
    (meaning : Meaning) → IsLawfulMeaning meaning → (now : ℕ)
    → NodeSteps meaning old (transition now (event_of_call thread call) answer) new
