-- What an event does to the endpoint on which it falls, the exchanges of the pair, and the greatest number held.
use Rattle.std.specs.Prelude.{ℕ, ◌≡◌, ◌≢◌, ◌<◌, ◌++◌, ◌∷◌, [], List, max, set, None, Some, Bool}
use Rattle.std.specs.Prelude.{true, false, slice_get, ◌⊎◌, Option, is_some}
use Rattle.spec_node.specs.declared.answer.Side.{Side}
use Rattle.spec_node.specs.declared.answer.Side.TheVariants as side
use Rattle.spec_node.specs.declared.answer.SlotRef.{SlotRef}
use Rattle.spec_node.specs.declared.answer.Asked.TheVariants as asked
use Rattle.spec_node.specs.declared.answer.Delivered.{Delivered}
use Rattle.spec_node.specs.declared.answer.Ticked.TheVariants as ticked
use Rattle.spec_node.specs.declared.answer.Delivered.TheVariants as delivered
use Rattle.spec_node.specs.Record.{Node, element_at}
use Rattle.spec_node.specs.Step.{request_slot, reply_slot}
use Rattle.spec_node.specs.SlotMessages.{message_at}
use Rattle.spec_node.specs.Held.{held_buffers}
use Rattle.node_core.specs.CoreContracts.{IsSameNode}
use Rattle.node_rules.specs.EndpointLocal.{EndpointLocal}
use Rattle.part_handlers.specs.Runs.{Meaning}
use Rattle.node_core.specs.Known.{IsLastRun}
use Rattle.node_rules.specs.EndpointRules.{transition}
use Rattle.sim_world.specs.ExchangesState.{ExchangesState}
use Rattle.sim_world.specs.Exchanges.{new_exchange, with_ran, with_returned}
use Rattle.node_endpoint.specs.EndpointState.{EndpointState, EndpointStands, EndpointSteps, BytesCome, WouldAcceptAt}
use Rattle.node_endpoint.specs.EndpointState.{ForItsRecord, IsTickTarget, MayBeCalled}
use Rattle.sim_world.specs.declared.exchanges.Exchange.{Exchange}
use Rattle.spec_node.specs.Transition.{Transition}
use Rattle.node_rules.specs.Called.{is_to_other}
use Rattle.node_rules.specs.declared.call.Event.{Event}
use Rattle.node_rules.specs.declared.call.Event.TheVariants as event
use Rattle.sim_world.specs.declared.event.WorldEvent.{WorldEvent}
use Rattle.sim_world.specs.declared.event.WorldEvent.TheVariants as world_event
use Rattle.node_rules.specs.declared.answer.Answer.{Answer}
use Rattle.node_rules.specs.declared.answer.Answer.TheVariants as answers
use Rattle.sim_world.specs.declared.event.WorldAnswer.{WorldAnswer}
use Rattle.sim_world.specs.declared.event.WorldAnswer.TheVariants as world_answers

pub record EventScope : Type 0 where
  pub endpoint : EndpointState
  pub exchanges : ExchangesState
  pub most : ℕ

-- nothing but the room changed
pub record IsSame (old new : EventScope) : Type 0 where
  pub endpoint : new.endpoint ≡ old.endpoint
  pub list : new.exchanges.list ≡ old.exchanges.list
  pub most_is : new.most ≡ old.most

-- the greatest number held was raised to what the endpoint holds
abbrev pub MostIs : ℕ → EndpointState → ℕ → Type 0
MostIs old endpoint new =
    ForItsRecord endpoint (λ node. new ≡ max old (held_buffers endpoint.core.settings endpoint.core.me node))

-- ---- an event of one node

-- an event that sends no request
pub record AloneFalls (meaning : Meaning) (old : EventScope) (step : Transition Event Answer)
    (new : EventScope) : Type 0 where
  pub steps : EndpointSteps meaning old.endpoint step new.endpoint
  pub list : new.exchanges.list ≡ old.exchanges.list
  pub most_is : MostIs old.most new.endpoint new.most

-- the slot of the request that an answer tells to be accepted: of a thread's, or one that a tick sends for the first
-- time
abbrev pub accepted_slot : Answer → Option ℕ
accepted_slot (answers.Asked (asked.Accepted to slot number)) = Some slot
accepted_slot (answers.Ticked (ticked.Notification at)) = Some at.slot
accepted_slot (answers.Ticked (ticked.Chunk at)) = Some at.slot
accepted_slot _ = None

abbrev pub with_accepted : List Exchange → Option ℕ → List Exchange
with_accepted list None = list
with_accepted list (Some slot) = list ++ new_exchange slot ∷ []

-- what the answer to a request or a tick leaves of the exchanges
abbrev pub asked_list : List Exchange → Answer → List Exchange
asked_list list answer = with_accepted list (accepted_slot answer)

-- a request of the pair, for which there is room
pub record IsAskedInScope (meaning : Meaning) (old : EventScope) (step : Transition Event Answer) (new : EventScope)
    : Type 0 where
  pub steps : EndpointSteps meaning old.endpoint step new.endpoint
  pub list : new.exchanges.list ≡ asked_list old.exchanges.list step.answer
  pub most_is : MostIs old.most new.endpoint new.most

-- a request of the pair that wouldn't be accepted
pub record IsDeclined (meaning : Meaning) (old : EventScope) (step : Transition Event Answer)
    (new : EventScope) : Type 0 where
  pub falls : AloneFalls meaning old step new
  pub declined : WouldAcceptAt old.endpoint (transition step.now step.event false)

-- one that would be accepted, for which there is no memory
pub record HasNoRoom (old : EventScope) (now : ℕ) (event : Event) (new : EventScope) : Type 0 where
  pub same : IsSame old new
  pub accepted : WouldAcceptAt old.endpoint (transition now event true)

abbrev pub AskFalls : Meaning → EventScope → Transition Event WorldAnswer → EventScope → Type 0
AskFalls meaning old step new = elim step.answer [
  | world_answers.Node answer ↦ IsAskedInScope meaning old (transition step.now step.event answer) new
      ⊎ IsDeclined meaning old (transition step.now step.event answer) new
  | world_answers.NoMemory ↦ HasNoRoom old step.now step.event new
  | world_answers.Unsent ↦ ⊥
]

-- ---- a delivery

-- a message that goes from one node to another: a request or the reply to one, the node that keeps it in a slot, the
-- node to which it is delivered, and the number of the request
pub record Envelope : Type 0 where
  pub side : Side
  pub sender : ℕ
  pub receiver : ℕ
  pub number : ℕ

-- the message of a slot of the sender comes: it is lent out of the slot
pub record Carries (meaning : Meaning) (sender old : EndpointState) (step : Transition SlotRef Answer)
    (new : EndpointState) : Type 0 where
  pub bytes : List ℕ
  pub stands :
      ForItsRecord sender (λ node. message_at sender.core.settings sender.core.me node step.event ≡ Some bytes)
  pub comes : BytesCome meaning old (transition step.now bytes step.answer) new

-- a message stands there, by a record for which the sender stands
pub record HoldsMessage (sender : EndpointState) (at : SlotRef) : Type 0 where
  pub node : Node EndpointLocal
  pub stands : EndpointStands sender node
  pub bytes : List ℕ
  pub message : message_at sender.core.settings sender.core.me node at ≡ Some bytes

-- a message that stands in this slot of its pair at its sender
pub record StoredMessage : Type 0 where
  pub sender : EndpointState
  pub slot : ℕ

-- what the answer to a delivered request leaves of the exchanges
abbrev pub ran_list : List Exchange → (number : ℕ) → Answer → List Exchange
ran_list list number (answers.Delivered (delivered.Ran at)) = with_ran list number
ran_list list number (answers.Delivered (delivered.Notified at notification)) = with_ran list number
ran_list list number _ = list

-- a request that didn't run
pub record RequestRuns (meaning : Meaning) (lodged : StoredMessage) (old : EventScope)
    (step : Transition Envelope Answer)
    (new : EventScope) : Type 0 where
  pub carries : Carries meaning lodged.sender old.endpoint
      (transition step.now (request_slot step.event.receiver lodged.slot) step.answer) new.endpoint
  pub list : new.exchanges.list ≡ ran_list old.exchanges.list step.event.number step.answer
  pub most_is : MostIs old.most new.endpoint new.most

-- how a request that ran in this slot is answered when it comes again, by whether it is the last one that ran there
abbrev pub answer_to_duplicate : (from slot : ℕ) → (is_last : Bool) → Delivered
answer_to_duplicate from slot true = delivered.Duplicate (reply_slot from slot)
answer_to_duplicate from slot false = delivered.Stale

-- a request that ran
pub record RequestRepeats (slot : ℕ) (old : EventScope) (step : Transition Envelope Answer)
    (new : EventScope) : Type 0 where
  pub same : IsSame old new
  pub is_last : Bool
  pub told : IsLastRun old.endpoint.core step.event.sender slot step.event.number is_last
  pub is_answer : step.answer ≡ answers.Delivered (answer_to_duplicate step.event.sender slot is_last)

-- a request that was sent comes
pub record RequestComes (meaning : Meaning) (sender : EndpointState) (old : EventScope)
    (step : Transition Envelope Answer)
    (new : EventScope) : Type 0 where
  pub exchange : Exchange
  pub sent : element_at old.exchanges.list step.event.number ≡ Some exchange
  pub repeats : exchange.ran ≡ true → RequestRepeats exchange.slot old step new
  pub runs : exchange.ran ≡ false
      → RequestRuns meaning (record { sender = sender; slot = exchange.slot }) old step new

-- it wasn't sent
pub record NoRequest (old : EventScope) (envelope : Envelope) (new : EventScope) : Type 0 where
  pub same : IsSame old new
  pub unsent : element_at old.exchanges.list envelope.number ≡ None

-- a request that was sent and didn't run stands in its slot at its sender
abbrev pub HoldsRequest : List Exchange → EndpointState → Envelope → Type 0
HoldsRequest exchanges sender envelope =
    (exchange : Exchange) → element_at exchanges envelope.number ≡ Some exchange → exchange.ran ≡ false
    → HoldsMessage sender (request_slot envelope.receiver exchange.slot)

-- a request of that number comes, where it was sent
abbrev pub RequestFalls : Meaning → EndpointState → EventScope → Transition Envelope WorldAnswer → EventScope → Type 0
RequestFalls meaning sender old step new = elim step.answer [
  | world_answers.Node answer ↦ RequestComes meaning sender old (transition step.now step.event answer) new
  | world_answers.NoMemory ↦ ⊥
  | world_answers.Unsent ↦ NoRequest old step.event new
]

-- what the answer to a delivered reply leaves of the exchanges
abbrev pub returned_list : List Exchange → (number : ℕ) → Answer → List Exchange
returned_list list number (answers.Delivered (delivered.Returned to slot other)) = with_returned list number
returned_list list number _ = list

-- a reply to a request that isn't back
pub record ReplyReturns (meaning : Meaning) (lodged : StoredMessage) (old : EventScope)
    (step : Transition Envelope Answer)
    (new : EventScope) : Type 0 where
  pub carries : Carries meaning lodged.sender old.endpoint
      (transition step.now (reply_slot step.event.receiver lodged.slot) step.answer) new.endpoint
  pub list : new.exchanges.list ≡ returned_list old.exchanges.list step.event.number step.answer
  pub most_is : MostIs old.most new.endpoint new.most

-- a reply to one that is back
pub record ReplyIsLate (old : EventScope) (answer : Answer) (new : EventScope) : Type 0 where
  pub same : IsSame old new
  pub late : answer ≡ answers.Delivered delivered.Late

-- a reply that was sent comes
pub record ReplyComes (meaning : Meaning) (sender : EndpointState) (old : EventScope)
    (step : Transition Envelope Answer)
    (new : EventScope) : Type 0 where
  pub exchange : Exchange
  pub sent : element_at old.exchanges.list step.event.number ≡ Some exchange
  pub ran : exchange.ran ≡ true
  pub late : exchange.back ≡ true → ReplyIsLate old step.answer new
  pub returns : exchange.back ≡ false
      → ReplyReturns meaning (record { sender = sender; slot = exchange.slot }) old step new

-- it wasn't sent: the request didn't run
pub record NoReply (old : EventScope) (envelope : Envelope) (new : EventScope) : Type 0 where
  pub same : IsSame old new
  pub unsent : (exchange : Exchange) → element_at old.exchanges.list envelope.number ≡ Some exchange
      → exchange.ran ≡ false

-- a reply that was sent, to a request that isn't back, stands in its slot at its sender
abbrev pub HoldsReply : List Exchange → EndpointState → Envelope → Type 0
HoldsReply exchanges sender envelope =
    (exchange : Exchange) → element_at exchanges envelope.number ≡ Some exchange
    → exchange.ran ≡ true → exchange.back ≡ false
    → HoldsMessage sender (reply_slot envelope.receiver exchange.slot)

-- the reply to the request of that number comes, where it was sent
abbrev pub ReplyFalls : Meaning → EndpointState → EventScope → Transition Envelope WorldAnswer → EventScope → Type 0
ReplyFalls meaning sender old step new = elim step.answer [
  | world_answers.Node answer ↦ ReplyComes meaning sender old (transition step.now step.event answer) new
  | world_answers.NoMemory ↦ ⊥
  | world_answers.Unsent ↦ NoReply old step.event new
]

-- a message of the sender comes
abbrev pub EnvelopeFalls : Meaning → EndpointState → EventScope → Transition Envelope WorldAnswer → EventScope → Type 0
EnvelopeFalls meaning sender old step new = elim step.event.side [
  | side.Request ↦ RequestFalls meaning sender old step new
  | side.Reply ↦ ReplyFalls meaning sender old step new
]

-- what its sender holds of it
abbrev pub HoldsEnvelope : List Exchange → EndpointState → Envelope → Type 0
HoldsEnvelope exchanges sender envelope = elim envelope.side [
  | side.Request ↦ HoldsRequest exchanges sender envelope
  | side.Reply ↦ HoldsReply exchanges sender envelope
]

-- that one of these endpoints holds
abbrev pub HoldsAmong : List EndpointState → List Exchange → Envelope → Type 0
HoldsAmong endpoints exchanges envelope =
    (sender : EndpointState) → slice_get endpoints envelope.sender ≡ Some sender
    → HoldsEnvelope exchanges sender envelope

-- ---- an event of a world

-- what an event that is no request to another node does, as an event of a world
abbrev pub AloneFallsIn : Meaning → EventScope → Transition Event WorldAnswer → EventScope → Type 0
AloneFallsIn meaning old step new = elim step.answer [
  | world_answers.Node answer ↦ AloneFalls meaning old (transition step.now step.event answer) new
  | world_answers.NoMemory ↦ ⊥
  | world_answers.Unsent ↦ ⊥
]

-- a call of a thread or a tick, which may send a request to another node
abbrev pub CallFalls : Meaning → EventScope → (is_ask : Bool) → Transition Event WorldAnswer → EventScope → Type 0
CallFalls meaning old true step new = AskFalls meaning old step new
CallFalls meaning old false step new = AloneFallsIn meaning old step new

-- a tick, which is a request of the pair where it sends one
pub record TickFalls (meaning : Meaning) (old : EventScope) (step : Transition Event WorldAnswer)
    (new : EventScope) : Type 0
  where
    pub target : Option ℕ
    pub sends : IsTickTarget old.endpoint step.now target
    pub falls : CallFalls meaning old (is_some target) step new

-- a message comes from one of these endpoints
pub record Meets (meaning : Meaning) (endpoints : List EndpointState) (old : EventScope)
    (step : Transition Envelope WorldAnswer) (new : EventScope) : Type 0 where
  pub sender : EndpointState
  pub lent : slice_get endpoints step.event.sender ≡ Some sender
  pub falls : EnvelopeFalls meaning sender old step new

-- a request of the pair, and the reply to one
abbrev pub request_envelope : (from to number : ℕ) → Envelope
request_envelope from to number = record { side = side.Request; sender = from; receiver = to; number = number }

abbrev pub reply_envelope : (from to number : ℕ) → Envelope
reply_envelope from to number = record { side = side.Reply; sender = to; receiver = from; number = number }

-- the node that keeps the message which an event delivers, and the one to which it comes; of another event its own node
abbrev pub event_way : WorldEvent → ℕ × ℕ
event_way (world_event.Call node thread call) = (node, node)
event_way (world_event.Request from to number) = (from, to)
event_way (world_event.Reply from to number) = (to, from)
event_way (world_event.Tick node) = (node, node)

-- what the sender holds of the message that an event delivers
abbrev pub HoldsDelivered : List Exchange → EndpointState → WorldEvent → Type 0
HoldsDelivered exchanges sender (world_event.Call node thread call) = ⊥
HoldsDelivered exchanges sender (world_event.Request from to number) =
    HoldsRequest exchanges sender (request_envelope from to number)
HoldsDelivered exchanges sender (world_event.Reply from to number) =
    HoldsReply exchanges sender (reply_envelope from to number)
HoldsDelivered exchanges sender (world_event.Tick node) = ⊥

-- the message that an event delivers comes from that sender
abbrev pub DeliveredFalls : Meaning → EndpointState → EventScope → Transition WorldEvent WorldAnswer → EventScope
    → Type 0
DeliveredFalls meaning sender old step new = elim step.event [
  | world_event.Call node thread call ↦ ⊥
  | world_event.Request from to number ↦
      RequestFalls meaning sender old (transition step.now (request_envelope from to number) step.answer) new
  | world_event.Reply from to number ↦
      ReplyFalls meaning sender old (transition step.now (reply_envelope from to number) step.answer) new
  | world_event.Tick node ↦ ⊥
]

-- an event does this to the scope on which it falls, among these endpoints
abbrev pub EventScopeSteps : Meaning → List EndpointState → EventScope → Transition WorldEvent WorldAnswer
    → EventScope → Type 0
EventScopeSteps meaning endpoints old step new = elim step.event [
  | world_event.Call node thread call ↦
      CallFalls meaning old (is_to_other node call) (transition step.now (event.Call thread call) step.answer) new
  | world_event.Request from to number ↦
      Meets meaning endpoints old (transition step.now (request_envelope from to number) step.answer) new
  | world_event.Reply from to number ↦
      Meets meaning endpoints old (transition step.now (reply_envelope from to number) step.answer) new
  | world_event.Tick node ↦ TickFalls meaning old (transition step.now event.Tick step.answer) new
]

-- the node on which an event falls
abbrev pub event_node : WorldEvent → ℕ
event_node (world_event.Call node thread call) = node
event_node (world_event.Request from to number) = to
event_node (world_event.Reply from to number) = from
event_node (world_event.Tick node) = node

-- there are endpoints for its nodes, and a message goes between two different ones
abbrev pub IsBetween : (count : ℕ) → WorldEvent → Type 0
IsBetween count (world_event.Call node thread call) = node < count
IsBetween count (world_event.Request from to number) = (from < count) × (to < count) × (from ≢ to)
IsBetween count (world_event.Reply from to number) = (from < count) × (to < count) × (from ≢ to)
IsBetween count (world_event.Tick node) = node < count

-- whether a tick sends a request of its node's own accord
pub record TickSends (endpoint : EndpointState) (now : ℕ) (sends : Bool) : Type 0 where
  pub target : Option ℕ
  pub target_is : IsTickTarget endpoint now target
  pub sends_is : sends ≡ is_some target

-- where the event is a tick, this is whether it sends one
abbrev pub IsPlanned : List EndpointState → Transition WorldEvent Bool → Type 0
IsPlanned endpoints step = elim step.event [
  | world_event.Call node thread call ↦ Unit {0}
  | world_event.Request from to number ↦ Unit {0}
  | world_event.Reply from to number ↦ Unit {0}
  | world_event.Tick node ↦
      (endpoint : EndpointState) → slice_get endpoints node ≡ Some endpoint
      → TickSends endpoint step.now step.answer
]

-- a call may be made at its node's endpoint
abbrev pub IsCallable : List EndpointState → WorldEvent → Type 0
IsCallable endpoints (world_event.Call node thread call) =
    (endpoint : EndpointState) → slice_get endpoints node ≡ Some endpoint
    → MayBeCalled endpoint.core.settings thread call
IsCallable endpoints (world_event.Request from to number) = Unit {0}
IsCallable endpoints (world_event.Reply from to number) = Unit {0}
IsCallable endpoints (world_event.Tick node) = Unit {0}

-- it is a call of a thread or a tick
abbrev pub IsOwn : WorldEvent → Type 0
IsOwn (world_event.Call node thread call) = Unit {0}
IsOwn (world_event.Request from to number) = ⊥
IsOwn (world_event.Reply from to number) = ⊥
IsOwn (world_event.Tick node) = Unit {0}

-- what such an event is at its endpoint; of a delivery it isn't asked
abbrev pub own_event : WorldEvent → Event
own_event (world_event.Call node thread call) = event.Call thread call
own_event (world_event.Request from to number) = event.Tick
own_event (world_event.Reply from to number) = event.Tick
own_event (world_event.Tick node) = event.Tick

-- it delivers a request
abbrev pub DeliversRequest : WorldEvent → Type 0
DeliversRequest (world_event.Call node thread call) = ⊥
DeliversRequest (world_event.Request from to number) = Unit {0}
DeliversRequest (world_event.Reply from to number) = ⊥
DeliversRequest (world_event.Tick node) = ⊥

-- it delivers a reply
abbrev pub DeliversReply : WorldEvent → Type 0
DeliversReply (world_event.Call node thread call) = ⊥
DeliversReply (world_event.Request from to number) = ⊥
DeliversReply (world_event.Reply from to number) = Unit {0}
DeliversReply (world_event.Tick node) = ⊥

-- it delivers a message
abbrev pub IsDelivery : WorldEvent → Type 0
IsDelivery (world_event.Call node thread call) = ⊥
IsDelivery (world_event.Request from to number) = Unit {0}
IsDelivery (world_event.Reply from to number) = Unit {0}
IsDelivery (world_event.Tick node) = ⊥

-- the message that an event delivers is held
abbrev pub IsHeld : List EndpointState → List Exchange → WorldEvent → Type 0
IsHeld endpoints exchanges (world_event.Call node thread call) = Unit {0}
IsHeld endpoints exchanges (world_event.Request from to number) =
    HoldsAmong endpoints exchanges (request_envelope from to number)
IsHeld endpoints exchanges (world_event.Reply from to number) =
    HoldsAmong endpoints exchanges (reply_envelope from to number)
IsHeld endpoints exchanges (world_event.Tick node) = Unit {0}

-- the endpoints, with the exchanges of a pair and the greatest number that a node held
pub record ScopeStage : Type 0 where
  pub endpoints : List EndpointState
  pub exchanges : ExchangesState
  pub most : ℕ

-- with one endpoint of them
abbrev pub scope_with : ScopeStage → EndpointState → EventScope
scope_with stage endpoint = record { endpoint = endpoint; exchanges = stage.exchanges; most = stage.most }

-- one endpoint changes alone, to this one, and stays that of its node
pub record ChangesOne (old new : List EndpointState) (node : ℕ) (was is : EndpointState) : Type 0 where
  pub there : slice_get old node ≡ Some was
  pub changed : new ≡ set old node is
  pub same : IsSameNode was.core is.core

-- an event falls on its node's endpoint
pub record Happens (meaning : Meaning) (old : ScopeStage) (step : Transition WorldEvent WorldAnswer)
    (new : ScopeStage) : Type 0
  where
    pub was : EndpointState
    pub is : EndpointState
    pub changes : ChangesOne old.endpoints new.endpoints (event_node step.event) was is
    pub steps : EventScopeSteps meaning old.endpoints (scope_with old was) step (scope_with new is)
