-- What the parts of a core's calls do, as values.
use Rattle.spec_node.specs.Invariant.{address_in}
use Rattle.std.specs.Prelude.{ℕ, pos, Bool, false, nat_le, not, ◌==◌, ◌≡◌, ◌+◌, ◌<◌, ◌⊎◌, ◌∷◌}
use Rattle.std.specs.Prelude.{map, replicate, IfSome, Option, None, Some, slice_get, List, [], true, false}
use Rattle.std.specs.Prelude.{if◌then◌else◌, Result, Ok, Err}
use Rattle.wire_message.specs.Parameters.{Parameters, credits_of}
use Rattle.wire_message.specs.Message.{Message, IsMessage, spelling, code, is_ack}
use Rattle.wire_message.specs.declared.content.Address.{Address}
use Rattle.wire_message.specs.Content.{Content, message_at_address, content_of}
use Rattle.part_window.specs.SlotsState.{CanClaim, Refuses, IsNew, IsTakenAt, Vacant, with_request, with_slot}
use Rattle.part_window.specs.SlotsState.{with_slot_changed}
use Rattle.part_window.specs.Due.{IsDueNext, as_retransmitted}
use Rattle.part_window.specs.declared.credits.NoClaim.TheVariants as claims
use Rattle.part_window.specs.RepliesState.{JudgesAt, with_reply}
use Rattle.part_window.specs.declared.replies.Judged.TheVariants.{New, Duplicate, Stale}
use Rattle.part_window.specs.RepliesState.{IsNew as IsNewReplies}
use Rattle.part_handlers.specs.declared.table.Entry.{Entry}
use Rattle.part_handlers.specs.declared.rules.Role.{Role}
use Rattle.part_handlers.specs.declared.rules.Role.TheVariants as role
use Rattle.part_handlers.specs.declared.rules.Forbidden.{Forbidden}
use Rattle.part_handlers.specs.declared.message.Which.{Which}
use Rattle.part_handlers.specs.declared.message.Which.TheVariants as which
use Rattle.part_handlers.specs.declared.rules.CallKind.TheVariants as call
use Rattle.part_handlers.specs.declared.rules.Context.TheVariants.{Thread}
use Rattle.part_handlers.specs.Rules.{rule}
use Rattle.part_handlers.specs.LogState.{log_of, notes}
use Rattle.part_handlers.specs.declared.rules.Fault.{Fault}
use Rattle.part_handlers.specs.declared.rules.Fault.TheVariants as fault
use Rattle.part_handlers.specs.declared.rules.CallKind.{CallKind}
use Rattle.part_handlers.specs.declared.lock_answer.Owner.TheVariants as owner
use Rattle.part_handlers.specs.Locks.{holds}
use Rattle.part_segment.specs.Image.{written_by}
use Rattle.part_handlers.specs.Runs.{Start, Outcome, IsPlaced, violation}
use Rattle.spec_node.specs.declared.answer.Asked.{Asked as AskedAnswer}
use Rattle.spec_node.specs.declared.answer.Asked.TheVariants as asked
use Rattle.spec_node.specs.declared.answer.Why.{Why}
use Rattle.spec_node.specs.declared.answer.Why.TheVariants as why
use Rattle.spec_node.specs.declared.answer.Delivered.{Delivered}
use Rattle.spec_node.specs.declared.answer.Delivered.TheVariants as delivered
use Rattle.spec_node.specs.Behaviour.{Contact, Ask, is_request}
use Rattle.spec_node.specs.Transition.{Transition}
use Rattle.spec_node.specs.Requests.{Claim}
use Rattle.part_handlers.specs.Runs.{Meaning}
use Rattle.node_core.specs.Library.{run_answer, has_library, has_wrong_args}
use Rattle.node_core.specs.HandlerRuns.{NodeHandlers, handlers_of, outcome, client_outcome, landing, place_of}
use Rattle.node_core.specs.HandlerRuns.{reply_or_ack}
use Rattle.node_core.specs.ClientRules.{content_refusal, asking_fault, thread_violation, said_in, busy_lock, awaited_lock}
use Rattle.spec_node.specs.declared.answer.Side.TheVariants as side
use Rattle.node_core.specs.Sizes.{AreSlots}
use Rattle.spec_node.specs.Step.{address_fault, first_why, reply_slot, slots_for, with_itself, with_sender}
use Rattle.node_core.specs.CoreState.{CoreState}

-- ---- a new core

-- the node `me` asked and ran nothing
pub record IsOpening (parameters : Parameters) (me : ℕ) (table : List (Option Entry)) (core : CoreState)
    : Type 0 where
  pub settings : core.settings ≡ parameters
  pub me_is : core.me ≡ me
  pub table_is : core.table ≡ table
  pub asked : List ℕ  -- how many slots there are for requests to each peer
  pub asked_are : AreSlots parameters me side.Request asked
  pub requests : IsNew asked me parameters.last core.requests
  pub ran : List ℕ  -- how many there are for the requests of each peer
  pub ran_are : AreSlots parameters me side.Reply ran
  pub replies : IsNewReplies ran me core.replies
  pub segment_is : core.segment ≡ replicate parameters.segment 0
  pub locks_are : core.locks ≡ []
  pub cells_are : core.cells ≡ replicate 256 (pos 0)
  pub log_is : core.log ≡ log_of []

-- ---- runs

-- what a handler finds at the core
abbrev pub start_at : CoreState → Start
start_at core = record { cells = core.cells; segment = core.segment; locks = core.locks }

-- the core after the payload of a message landed
abbrev pub landed_core : CoreState → Content → CoreState
landed_core core content = record core { segment = written_by core.segment (landing content) }

-- the core after a run with this outcome
abbrev pub with_outcome : CoreState → Role → Outcome → CoreState
with_outcome core which run = record core {
  cells = run.cells;
  segment = written_by core.segment run.writes;
  log = notes core.log (map (violation which) run.refused);
}

-- the core's handlers
abbrev pub handlers_at : Meaning → CoreState → NodeHandlers
handlers_at meaning core = handlers_of core.settings core.table meaning

-- what the run of a request at the core gives
abbrev pub request_outcome : Meaning → CoreState → Contact → Content → Outcome
request_outcome meaning core contact content =
    outcome (handlers_at meaning core) role.Request contact content (start_at core)

-- what the run of a reply at the core gives
abbrev pub reply_outcome : Meaning → CoreState → Contact → Content → Outcome
reply_outcome meaning core contact content =
    outcome (handlers_at meaning core) role.Reply contact content (start_at core)

-- the reply of a request of another node, with an Ack for none, on its way
abbrev pub answer_message : CoreState → Contact → Outcome → Message
answer_message core contact run =
    message_at_address (address_in core.settings contact.me contact.peer contact.slot contact.number)
    (reply_or_ack run.reply)

-- the core after a reply landed and ran
abbrev pub with_reply_ran : Meaning → CoreState → Contact → Content → CoreState
with_reply_ran meaning core contact content =
    let landed = landed_core core content in
    with_outcome landed role.Reply (reply_outcome meaning landed contact content)

-- the same of a client's handler
abbrev pub with_client_reply_ran : Meaning → CoreState → Contact → Content → CoreState
with_client_reply_ran meaning core contact content =
    let landed = landed_core core content in
    with_outcome landed role.Reply
    (client_outcome (handlers_at meaning landed) role.Reply contact content (start_at landed))

-- the core after the reply of an own request ran, if there was one
abbrev pub with_own_reply : Meaning → CoreState → Option Content → CoreState
with_own_reply meaning core None = core
with_own_reply meaning core (Some content) = with_reply_ran meaning core (with_itself core.me) content

-- the core after a request to the local node
abbrev pub with_own_run : Meaning → CoreState → Content → CoreState
with_own_run meaning core content =
    let landed = landed_core core content in
    let run = request_outcome meaning landed (with_itself core.me) content in
    with_own_reply meaning (with_outcome landed role.Request run) run.reply

-- ---- requests

-- an address with this slot and number
abbrev pub numbered_way : Address → (claim : ℕ × ℕ) → Address
numbered_way way claim = record way { slot = claim.0; number = claim.1 }

-- a content for a node
pub record ContentFor : Type 0 where
  pub to : ℕ
  pub content : Content

-- the request that is claimed for a node, in this slot and with this number
abbrev pub claimed_message : CoreState → Transition ContentFor Claim → Message
claimed_message core step =
    message_at_address
    (address_in core.settings core.me step.event.to step.answer.slot step.answer.number) step.event.content

-- the lowest free slot and the next number are taken, and the message is kept there
pub record Accepts (core : CoreState) (step : Transition ContentFor Claim) (new : CoreState) : Type 0 where
  pub claim : IfSome (slice_get core.requests.peers step.event.to)
      (λ peer. CanClaim peer core.requests.last step.answer.slot × (step.answer.number ≡ peer.given + 1))
  pub slot_in : step.answer.slot < credits_of core.settings core.me step.event.to
  pub spelled : IsMessage (claimed_message core step)
  pub kept : new ≡ record core {
    requests = with_request core.requests step.event.to
        (record { slot = step.answer.slot; number = step.answer.number; time = step.now })
        (spelling (claimed_message core step));
  }

-- what a request to another node is answered, and what it leaves
abbrev pub Claims : CoreState → Transition ContentFor AskedAnswer → CoreState → Type 0
Claims core step new = elim step.answer [
  | asked.Accepted peer slot number ↦
      (peer ≡ step.event.to) × Accepts core (record {
        now = step.now;
        event = step.event;
        answer = record { slot = slot; number = number };
      }) new
  | asked.Exhausted ↦
      IfSome (slice_get core.requests.peers step.event.to) (λ peer. Refuses peer core.requests.last claims.Exhausted)
      × (new ≡ core)
  | asked.NotYet ↦
      IfSome (slice_get core.requests.peers step.event.to) (λ peer. Refuses peer core.requests.last claims.NotYet)
      × (new ≡ core)
  | _ ↦ ⊥
]

-- the core after these faults of a thread's calls were noted
abbrev pub noting : CoreState → (thread : ℕ) → List Fault → CoreState
noting core thread faults = record core { log = notes core.log (map (thread_violation thread) faults) }

-- the core after a thread's call was judged
abbrev pub after_judgement : CoreState → (thread : ℕ) → Result (Unit {0}) Forbidden → CoreState
after_judgement core thread (Ok allowed) = core
after_judgement core thread (Err forbidden) = noting core thread (fault.Rule forbidden ∷ [])

-- how the rule table judges a thread's call at the core
abbrev pub thread_rule : CoreState → (thread : ℕ) → CallKind → Result (Unit {0}) Forbidden
thread_rule core thread kind = rule (Thread thread) (holds (owner.Thread thread) core.locks) false kind

-- ---- deliveries

-- why the core refuses a message
unfoldable pub message_refusal : CoreState → Message → Option Why
message_refusal core message =
    first_why (address_fault core.settings core.me message)
    (content_refusal core.settings core.table (content_of message))

-- what is known of a message that the core doesn't refuse: it is for this node, from a node, with a slot of its pair,
-- and its place is inside the segment
pub record IsOurs (core : CoreState) (message : Message) : Type 0 where
  pub to : message.to ≡ core.me
  pub from : message.from < core.settings.nodes
  pub slot : message.slot < slots_for core.settings core.me message
  pub placed : IsPlaced core.settings.segment (place_of (content_of message))

-- a request that the core doesn't refuse
pub record IsOurRequest (core : CoreState) (message : Message) : Type 0 where
  pub ours : message_refusal core message ≡ None
  pub known : IsOurs core message
  pub request : is_request message.kind ≡ true
  pub spelled : IsMessage message

-- a reply that the core doesn't refuse
pub record IsOurReply (core : CoreState) (message : Message) : Type 0 where
  pub ours : message_refusal core message ≡ None
  pub known : IsOurs core message
  pub reply : is_request message.kind ≡ false
  pub spelled : IsMessage message

-- the lock for which a message waits at the core, if any
abbrev pub lock_at : CoreState → Message → Option ℕ
lock_at core message = awaited_lock core.table (content_of message) core.locks

-- a request that is new in its slot
pub record IsNewRequest (core : CoreState) (message : Message) : Type 0 where
  pub ours : IsOurRequest core message
  pub new : JudgesAt core.replies message.from message.slot message.number New

-- a reply to a request that isn't back
pub record IsOpenReply (core : CoreState) (message : Message) : Type 0 where
  pub ours : IsOurReply core message
  pub taken : IsTakenAt core.requests message.from message.slot message.number

-- what the run of a request of another node gives, after its payload landed
abbrev pub delivered_outcome : Meaning → CoreState → Message → Outcome
delivered_outcome meaning core message =
    request_outcome meaning (landed_core core (content_of message)) (with_sender core.me message) (content_of message)

-- the same of a client's handler
abbrev pub client_delivered : Meaning → CoreState → Message → Outcome
client_delivered meaning core message =
    let landed = landed_core core (content_of message) in
    client_outcome (handlers_at meaning landed) role.Request (with_sender core.me message) (content_of message)
    (start_at landed)

-- a request that is new in its slot landed and ran with this outcome, and its reply, or an Ack, is kept there
pub record RunsBy (run : Outcome) (core : CoreState) (message : Message) (new : CoreState) : Type 0 where
  pub spelled : IsMessage (answer_message core (with_sender core.me message) run)
  pub kept : new ≡ record (with_outcome (landed_core core (content_of message)) role.Request run) {
    replies = with_reply core.replies message.from message.slot message.number
        (spelling (answer_message core (with_sender core.me message) run));
  }

-- the same with what the run of its handler gives
abbrev pub Runs : Meaning → CoreState → Message → CoreState → Type 0
Runs meaning core message new = RunsBy (delivered_outcome meaning core message) core message new

-- the message of this reply to a request of another node
abbrev pub reply_to : CoreState → Message → (reply : Content) → Message
reply_to core message reply =
    message_at_address (address_in core.settings core.me message.from message.slot message.number) reply

-- this reply to a request that is new in its slot is kept there, and nothing else changed
pub record KeepsAnswer (core : CoreState) (message : Message) (reply : Content) (new : CoreState) : Type 0 where
  pub spelled : IsMessage (reply_to core message reply)
  pub kept : new ≡ record core {
    replies = with_reply core.replies message.from message.slot message.number (spelling (reply_to core message reply));
  }

-- what is wrong with a message with an index of the library, beside its place
abbrev pub library_fault : Parameters → Content → Option Why
library_fault settings content =
    if not (has_library content.kind content.handler) then Some why.Handler
    else (if has_wrong_args settings content.handler content.args then Some why.Args else None)

-- the core after a reply landed and ran; an Ack runs no handler
abbrev pub with_reply_run : Meaning → CoreState → Message → CoreState
with_reply_run meaning core message =
    if is_ack (code message.kind) then core
    else with_reply_ran meaning core (with_sender core.me message) (content_of message)

-- a reply whose handler can run: it isn't refused, it is no Ack, and it waits for no lock
pub record CanRunReply (core : CoreState) (message : Message) : Type 0 where
  pub ours : IsOurReply core message
  pub runs : is_ack (code message.kind) ≡ false
  pub free : lock_at core message ≡ None

-- a request that is new in its slot ran, and was answered as its run is
pub record RunsNew (meaning : Meaning) (core : CoreState) (message : Message) (answer : Delivered) (new : CoreState)
    : Type 0 where
  pub request : IsNewRequest core message
  pub free : lock_at core message ≡ None
  pub answer_is : answer
      ≡ run_answer core.settings.version (content_of message) (reply_slot message.from message.slot)
  pub ran : Runs meaning core message new

-- what a message that is delivered is answered, and what it leaves
abbrev pub DeliversMessage : Meaning → CoreState → Message → Delivered → CoreState → Type 0
DeliversMessage meaning core message (delivered.Ran at) new = RunsNew meaning core message (delivered.Ran at) new
DeliversMessage meaning core message (delivered.Notified at notification) new =
    RunsNew meaning core message (delivered.Notified at notification) new
DeliversMessage meaning core message (delivered.Duplicate at) new =
    IsOurRequest core message × (at ≡ reply_slot message.from message.slot)
    × JudgesAt core.replies message.from message.slot message.number Duplicate × (new ≡ core)
DeliversMessage meaning core message delivered.Stale new =
    IsOurRequest core message × JudgesAt core.replies message.from message.slot message.number Stale × (new ≡ core)
DeliversMessage meaning core message (delivered.Returned to slot number) new =
    IsOpenReply core message × (to ≡ message.from) × (slot ≡ message.slot) × (number ≡ message.number)
    × (lock_at core message ≡ None) × (new ≡ with_reply_run meaning
    (record core { requests = with_slot core.requests message.from message.slot Vacant }) message)
DeliversMessage meaning core message delivered.Late new =
    IsOurReply core message × (IsTakenAt core.requests message.from message.slot message.number → ⊥) × (new ≡ core)
DeliversMessage meaning core message (delivered.Refused why) new =
    (message_refusal core message ≡ Some why) × (new ≡ core)
DeliversMessage meaning core message (delivered.Deferred lock) new =
    (IsNewRequest core message ⊎ IsOpenReply core message) × (lock_at core message ≡ Some lock) × (new ≡ core)

-- ---- ticks

-- the request that is sent again, and what that leaves
abbrev pub Retransmits : CoreState → (now : ℕ) → Option (ℕ × ℕ) → CoreState → Type 0
Retransmits core now None new = IsDueNext core.requests now core.settings.resend None × (new ≡ core)
Retransmits core now (Some at) new =
    IsDueNext core.requests now core.settings.resend (Some at) ×
    (new ≡ record core { requests = with_slot_changed core.requests at.0 at.1 (as_retransmitted now) })

-- ---- a request of a thread

-- the first argument of a request that is bad
abbrev pub asked_fault : CoreState → Ask → Option Which
asked_fault core ask =
    if nat_le core.settings.nodes ask.to then Some which.Node
    else asking_fault core.settings core.table ask.what

-- what a request says at the core
abbrev pub said_at : CoreState → Ask → Content
said_at core ask = said_in core.segment ask.what

-- a request of a thread to another node, without the thread
abbrev pub claim_of : CoreState → Transition Ask AskedAnswer → Transition ContentFor AskedAnswer
claim_of core step = record {
  now = step.now;
  event = record { to = step.event.to; content = said_at core step.event };
  answer = step.answer;
}

-- a request to the local node, by the lock for which it waits: with none it runs at once
abbrev pub AsksHere : Option ℕ → Meaning → CoreState → Transition Ask AskedAnswer → CoreState → Type 0
AsksHere (Some lock) meaning core step new = (step.answer ≡ asked.LockBusy lock) × (new ≡ core)
AsksHere None meaning core step new =
    (step.answer ≡ asked.Ran) × (new ≡ with_own_run meaning core (said_at core step.event))

-- a request with no fault: to the local node, or to another one, where it is claimed
abbrev pub AsksNode : (is_own : Bool) → Meaning → CoreState → Transition Ask AskedAnswer → CoreState → Type 0
AsksNode true meaning core step new =
    AsksHere (busy_lock core.table step.event.what.handler core.locks) meaning core step new
AsksNode false meaning core step new = Claims core (claim_of core step) new

-- a request that the rule table allows: looked through, and then run or claimed
abbrev pub AsksUnlessBad : Option Which → Meaning → CoreState → Transition Ask AskedAnswer → CoreState → Type 0
AsksUnlessBad (Some part) meaning core step new = (step.answer ≡ asked.BadArg part) × (new ≡ core)
AsksUnlessBad None meaning core step new = AsksNode (step.event.to == core.me) meaning core step new

-- a request of a thread that was judged
abbrev pub AsksUnlessForbidden : Result (Unit {0}) Forbidden → Meaning → CoreState → Transition Ask AskedAnswer
    → CoreState → Type 0
AsksUnlessForbidden (Err forbidden) meaning core step new =
    (step.answer ≡ asked.Forbidden forbidden) × (new ≡ after_judgement core step.event.thread (Err forbidden))
AsksUnlessForbidden (Ok allowed) meaning core step new =
    AsksUnlessBad (asked_fault core step.event) meaning core step new

-- a request of a thread
abbrev pub AsksFor : Meaning → CoreState → Transition Ask AskedAnswer → CoreState → Type 0
AsksFor meaning core step new =
    AsksUnlessForbidden (thread_rule core step.event.thread call.Request) meaning core step new
