-- What an endpoint is, as a value, and what its step does.
use Rattle.std.specs.Prelude.{ℕ, ◌≡◌, ◌<◌, ◌≤◌, Bool, List, Option, Some, None, true, false, is_some, length}
use Rattle.wire_message.specs.Parameters.{Parameters}
use Rattle.wire_message.specs.Message.{Message, Spells}
use Rattle.wire_message.specs.Refusals.{first_refusal}
use Rattle.wire_message.specs.declared.refused.Refused.{Refused}
use Rattle.part_transfers.specs.declared.regions.Region.{Region as BegunRegion}
use Rattle.part_barrier.specs.BarrierState.{BarrierState}
use Rattle.part_barrier.specs.Stands.{BarrierStands}
use Rattle.part_transfers.specs.declared.operation.Handle.{Handle}
use Rattle.part_transfers.specs.declared.transfers.Transfers.{Transfers}
use Rattle.part_transfers.specs.Stands.{Stands as TransfersStand}
use Rattle.part_handlers.specs.declared.table.Entry.{Entry}
use Rattle.part_handlers.specs.declared.rules.CallKind.{CallKind}
use Rattle.part_handlers.specs.Runs.{Meaning}
use Rattle.spec_node.specs.declared.answer.Why.TheVariants as why
use Rattle.spec_node.specs.declared.answer.Delivered.{Delivered}
use Rattle.spec_node.specs.declared.answer.Delivered.TheVariants as delivered
use Rattle.spec_node.specs.Record.{Node}
use Rattle.spec_node.specs.Behaviour.{Behaviour}
use Rattle.spec_node.specs.Step.{deliver_answer, with_local, request_answer, tick_choice, TickChoice, Retransmits, Sends}
use Rattle.spec_node.specs.NodeStep.{Job, Comes, Ticks, node_answer, node_after, site_of}
use Rattle.spec_node.specs.Transition.{Transition}
use Rattle.spec_node.specs.Under.{under}
use Rattle.node_core.specs.CoreState.{CoreState}
use Rattle.node_core.specs.CoreContracts.{IsSameNode}
use Rattle.node_core.specs.Stands.{CoreStands}
use Rattle.node_core.specs.Known.{IsSoFrom, is_accepted}
use Rattle.node_rules.specs.EndpointLocal.{EndpointLocal, IsEndpointKept, core_of}
use Rattle.node_rules.specs.EndpointRules.{OtherCall, RecordEvent, job_of, answer_told, transition, unless_forbidden}
use Rattle.node_rules.specs.Tracking.{NodeTracks}
use Rattle.node_rules.specs.Called.{Meant, Requests, Performs, meant, event_of_call, HasTarget}
use Rattle.node_rules.specs.declared.call.Call.{Call}
use Rattle.node_rules.specs.declared.call.Call.TheVariants as call
use Rattle.node_rules.specs.declared.call.Event.{Event}
use Rattle.node_rules.specs.declared.call.Event.TheVariants as event
use Rattle.node_rules.specs.declared.answer.Answer.{Answer}
use Rattle.node_rules.specs.declared.answer.Answer.TheVariants as answers

pub record EndpointState : Type 0 where
  pub core : CoreState
  pub transfers : Transfers
  pub regions : List (Option BegunRegion)
  pub registers : List Handle
  pub barrier : BarrierState

-- what the endpoint keeps is what the record of its node gives
pub record EndpointStands (endpoint : EndpointState) (node : Node EndpointLocal) : Type 0 where
  pub core : CoreStands endpoint.core (under core_of node)
  pub kept : IsEndpointKept endpoint.core.settings endpoint.core.me node.local
  pub tracks : NodeTracks endpoint.core.settings.version node
  pub transfers : TransfersStand endpoint.transfers node.local.operations
  pub regions_are : endpoint.regions ≡ node.local.regions
  pub registers_are : endpoint.registers ≡ node.local.registers
  pub barrier : BarrierStands endpoint.core.settings.nodes endpoint.core.me endpoint.barrier node.local.barrier

-- its core is that of the node `me` of a job with these settings, with this table
pub record IsNodeOf (settings : Parameters) (table : List (Option Entry)) (me : ℕ) (endpoint : EndpointState) : Type 0
  where
    pub settings_are : endpoint.core.settings ≡ settings
    pub me_is : endpoint.core.me ≡ me
    pub table_is : endpoint.core.table ≡ table

-- a thread of the job makes the call, and a list of registers that it names has at most 256
abbrev pub MayBeCalled : Parameters → (thread : ℕ) → Call → Type 0
MayBeCalled settings thread (call.SyncAll regs) = (thread < settings.threads) × (length regs.now ≤ 256)
MayBeCalled settings thread (call.SyncSome regs) = (thread < settings.threads) × (length regs.now ≤ 256)
MayBeCalled settings thread _ = thread < settings.threads

-- so it is of an event
abbrev pub MayHappen : Parameters → Event → Type 0
MayHappen settings (event.Call thread call) = MayBeCalled settings thread call
MayHappen settings _ = Unit {0}

-- what the handlers and calls do at this endpoint
abbrev pub job_here : Meaning → EndpointState → Job EndpointLocal OtherCall Answer
job_here meaning endpoint = job_of endpoint.core.settings endpoint.core.table meaning

-- this holds of every record for which the endpoint stands
abbrev pub ForItsRecord : EndpointState → (Node EndpointLocal → Type 0) → Type 0
ForItsRecord endpoint Holds = (node : Node EndpointLocal) → EndpointStands endpoint node → Holds node

-- an event that falls on the node: of every record for which the endpoint stood, the answer is the record's, and the
-- endpoint stands for the record's next one
pub record NodeSteps
    (meaning : Meaning) (old : EndpointState) (step : Transition RecordEvent Answer) (new : EndpointState) : Type 0
  where
    pub same : IsSameNode old.core new.core
    pub steps : ForItsRecord old (λ node.
        (step.answer ≡ answer_told (node_answer (job_here meaning old) old.core.me node step.now step.event))
        × EndpointStands new (node_after (job_here meaning old) old.core.me node step.now step.event))

-- a call of a thread that does nothing but be judged by the rule table
pub record JudgedCall : Type 0 where
  pub thread : ℕ
  pub kind : CallKind
  pub allowed : Answer  -- its answer where it is allowed

-- what it answers and leaves
abbrev pub judged_outcome : Behaviour EndpointLocal → JudgedCall → EndpointLocal → Answer × EndpointLocal
judged_outcome behaviour call local =
    unless_forbidden behaviour call.thread (behaviour.judges call.thread call.kind local) local (call.allowed, local)

pub record IsJudged (old : EndpointState) (call : JudgedCall) (answer : Answer) (new : EndpointState) : Type 0 where
  pub same : IsSameNode old.core new.core
  pub steps : (meaning : Meaning) → ForItsRecord old (λ node.
      (answer ≡ (judged_outcome (job_here meaning old).behaviour.messages call node.local).0)
      × EndpointStands new
      (with_local node (judged_outcome (job_here meaning old).behaviour.messages call node.local).1))

-- bytes that are delivered: they spell a message of the job's version, which comes, or they are refused
pub record BytesCome
    (meaning : Meaning) (old : EndpointState) (step : Transition (List ℕ) Answer) (new : EndpointState) : Type 0 where
  pub same : IsSameNode old.core new.core
  pub comes : (message : Message) → message.version ≡ old.core.settings.version → Spells message step.event
      → NodeSteps meaning old (transition step.now (Comes message) step.answer) new
  pub refused : (reason : Refused) → first_refusal old.core.settings.version step.event ≡ Some reason
      → (step.answer ≡ answers.Delivered (delivered.Refused (why.Bytes reason))) × (new ≡ old)

-- what a step of the endpoint does
abbrev pub EndpointSteps : Meaning → EndpointState → Transition Event Answer → EndpointState → Type 0
EndpointSteps meaning old step new = elim step.event [
  | event.Call thread call ↦ NodeSteps meaning old (transition step.now (event_of_call thread call) step.answer) new
  | event.Deliver bytes ↦ BytesCome meaning old (transition step.now bytes.now step.answer) new
  | event.Tick ↦ NodeSteps meaning old (transition step.now Ticks step.answer) new
]

-- the event runs no handler, whatever the node has kept: it is a tick, or a call that is no request to the local node
abbrev pub RunsNone : EndpointState → Event → Type 0
RunsNone endpoint (event.Call thread call) = HasTarget call endpoint.core.me → ⊥
RunsNone endpoint (event.Deliver bytes) = ⊥
RunsNone endpoint event.Tick = Unit {0}

-- ---- what an event would do

-- the node to which a tick that does this sends a request for the first time
abbrev pub sent_to : TickChoice → Option ℕ
sent_to (Sends sending) = Some sending.to
sent_to _ = None

-- this is the node to which a tick at this time sends a request of the node's own accord, if it does
abbrev pub IsTickTarget : EndpointState → (now : ℕ) → Option ℕ → Type 0
IsTickTarget endpoint now target = (meaning : Meaning) → ForItsRecord endpoint (λ node.
    target ≡ sent_to (tick_choice (site_of (job_here meaning endpoint) endpoint.core.me) node now))

-- whether a tick that does this sends a request again
abbrev pub sends_again : TickChoice → Bool
sends_again (Retransmits due) = true
sends_again _ = false

-- whether a tick at this time does
abbrev pub IsDue : EndpointState → (now : ℕ) → Bool → Type 0
IsDue endpoint now is_due = (meaning : Meaning) → ForItsRecord endpoint (λ node.
    is_due ≡ sends_again (tick_choice (site_of (job_here meaning endpoint) endpoint.core.me) node now))

-- the time from which on a tick does, as long as nothing happens to the node
abbrev pub IsNextDue : EndpointState → Option ℕ → Type 0
IsNextDue endpoint time = IsSoFrom (IsDue endpoint) time

-- whether a thread's call would be accepted, if it is a request; no other call would
abbrev pub WouldAcceptCall : EndpointState → (thread : ℕ) → Meant → Bool → Type 0
WouldAcceptCall endpoint thread (Requests to asking) would = (meaning : Meaning) → ForItsRecord endpoint (λ node.
    would ≡ is_accepted (request_answer (site_of (job_here meaning endpoint) endpoint.core.me) node
    (record { thread = thread; to = to; what = asking })))
WouldAcceptCall endpoint thread (Performs call) would = would ≡ false

-- whether a request to another node would be accepted at this time: one that a thread makes, or one that a tick sends
-- of the node's own accord; no other event would accept one
abbrev pub WouldAcceptAt : EndpointState → Transition Event Bool → Type 0
WouldAcceptAt endpoint step = elim step.event [
  | event.Call thread call ↦ WouldAcceptCall endpoint thread (meant call) step.answer
  | event.Deliver bytes ↦ step.answer ≡ false
  | event.Tick ↦ (target : Option ℕ) → IsTickTarget endpoint step.now target → step.answer ≡ is_some target
]

-- what a delivery of these bytes would be answered: what the record says, whatever the handlers mean
pub record WouldDeliver (endpoint : EndpointState) (bytes : List ℕ) (answer : Delivered) : Type 0 where
  pub comes : (message : Message) → message.version ≡ endpoint.core.settings.version → Spells message bytes
      → (meaning : Meaning) → ForItsRecord endpoint (λ node.
      answer ≡ deliver_answer (site_of (job_here meaning endpoint) endpoint.core.me) node message)
  pub refused : (reason : Refused) → first_refusal endpoint.core.settings.version bytes ≡ Some reason
      → answer ≡ delivered.Refused (why.Bytes reason)

-- every delivery of these bytes is answered so, at any time and whatever the handlers mean
abbrev pub IsAnsweredAlways : EndpointState → (bytes : List ℕ) → Delivered → Type 0
IsAnsweredAlways endpoint bytes answer = (meaning : Meaning) (now : ℕ) (given : Answer) (new : EndpointState)
    → BytesCome meaning endpoint (transition now bytes given) new → given ≡ answers.Delivered answer
