-- What the run of a handler gives, as values. Origin: GASNet 1.8.1, core API, active messages: a request handler sends
-- at most one reply, to the requester; a reply handler sends none. Of a Medium message the handler sees the payload in
-- a buffer of the library, of a Long at its place of the segment. The locks are those of the core API's section on
-- handler-safe locks; which of them a handler may take is this project's profile.
use Rattle.std.specs.Prelude.{ℕ, ℤ, ◌≡◌, ◌≢◌, ◌≤◌, ◌+◌, ◌==◌, ◌&&◌, List, [], ◌∷◌, ◌++◌, Option, Some, None, Result, Ok}
use Rattle.std.specs.Prelude.{Err, Bool, true, false, not, nat_lt, length, if◌then◌else◌, is_some}
use Rattle.part_segment.specs.Image.{Write, AllFit}
use Rattle.part_handlers.specs.Locks.{lock_answer, after_lock, unlock_answer, after_unlock, blocking_lock, without}
use Rattle.part_handlers.specs.Locks.{holds}
use Rattle.part_handlers.specs.declared.lock_answer.Held.{Held}
use Rattle.part_handlers.specs.declared.lock_answer.Owner.TheVariants as owner
use Rattle.part_handlers.specs.declared.lock_answer.LockAnswer.{LockAnswer}
use Rattle.part_handlers.specs.declared.lock_answer.LockAnswer.TheVariants as locking
use Rattle.part_handlers.specs.declared.lock_answer.UnlockAnswer.{UnlockAnswer}
use Rattle.part_handlers.specs.declared.lock_answer.UnlockAnswer.TheVariants as unlocking
use Rattle.wire_message.specs.declared.kind.Kind.{Kind}
use Rattle.wire_message.specs.declared.kind.Kind.TheVariants as kind
use Rattle.wire_message.specs.Message.{Message, IsMessage, spelling, code, is_long, is_bare}
use Rattle.wire_message.specs.Content.{Content, message_at_address}
use Rattle.wire_message.specs.declared.content.Address.{Address}
use Rattle.wire_message.specs.Parameters.{Parameters}
use Rattle.part_handlers.specs.declared.table.Entry.{Entry}
use Rattle.part_handlers.specs.declared.rules.Role.{Role}
use Rattle.part_handlers.specs.declared.rules.Role.TheVariants as role
use Rattle.part_handlers.specs.declared.rules.CallKind.{CallKind}
use Rattle.part_handlers.specs.declared.rules.CallKind.TheVariants as call
use Rattle.part_handlers.specs.declared.rules.Forbidden.{Forbidden}
use Rattle.part_handlers.specs.declared.rules.Fault.{Fault}
use Rattle.part_handlers.specs.declared.rules.Fault.TheVariants as fault
use Rattle.part_handlers.specs.declared.rules.Violation.{Violation}
use Rattle.part_handlers.specs.declared.message.Which.{Which}
use Rattle.part_handlers.specs.declared.message.Which.TheVariants as which
use Rattle.part_handlers.specs.declared.message.Replied.{Replied}
use Rattle.part_handlers.specs.declared.message.Replied.TheVariants as replied
use Rattle.part_handlers.specs.Rules.{rule, context_of}
use Rattle.part_handlers.specs.Registered.{entry_at, is_for_replies}
use Rattle.wire_message.specs.declared.limits.TheConstants.{MAX_DATAGRAM, MAX_PAYLOAD}

-- the message that a handler runs for: its role, the receiver and the sender, the slot and the number of its request,
-- its arguments, the payload of a Medium message, and the place of a Long's payload: its first byte and its length
pub record Arrival : Type 0 where
  pub role : Role
  pub me : ℕ
  pub source : ℕ
  pub slot : ℕ
  pub number : ℕ
  pub args : List ℤ
  pub payload : List ℕ
  pub place : Option (ℕ × ℕ)

-- what stays the same while a handler runs: the job's settings, the handlers that are registered, the locks that this
-- one may take, bit k for lock k, and its message
pub record Frame : Type 0 where
  pub settings : Parameters
  pub table : List (Option Entry)
  pub listed : ℕ
  pub arrival : Arrival

-- what a handler finds: the cells, the bytes of the segment, and the locks that are held, in the order of locking
pub record Start : Type 0 where
  pub cells : List ℤ
  pub segment : List ℕ
  pub locks : List Held

-- what a run gives: the cells that it leaves, what it wrote into the segment, in order, the locks that are held then,
-- the reply that was sent, and the calls that were refused, in order
pub record Outcome : Type 0 where
  pub cells : List ℤ
  pub writes : List Write
  pub locks : List Held
  pub reply : Option Content
  pub refused : List Fault

-- a run that did nothing so far
abbrev pub nothing_done : Start → Outcome
nothing_done start = record { cells = start.cells; writes = []; locks = start.locks; reply = None; refused = [] }

-- what is noted of a fault of a handler with this role
abbrev pub violation : Role → Fault → Violation
violation r f = record { context = context_of r; fault = f }

-- the fault of a call that the rule table forbids; none where it is allowed
abbrev pub refusal : Result (Unit {0}) Forbidden → List Fault
refusal (Ok allowed) = []
refusal (Err forbidden) = fault.Rule forbidden ∷ []

-- how the rule table judges a call of the handler
abbrev pub judgement : Frame → CallKind → Outcome → Result (Unit {0}) Forbidden
judgement frame kind outcome =
    rule (context_of frame.arrival.role) (holds owner.Handler outcome.locks) (is_some outcome.reply) kind

-- after a call that does nothing but be judged
abbrev pub after_attempt : Frame → CallKind → Outcome → Outcome
after_attempt frame kind outcome =
    record outcome { refused = outcome.refused ++ refusal (judgement frame kind outcome) }

-- after the handler: its return is judged, and its locks are freed
abbrev pub after_return : Frame → Outcome → Outcome
after_return frame outcome =
    record (after_attempt frame call.Return outcome) { locks = without owner.Handler outcome.locks }

-- after this was written into the segment
abbrev pub writing : Write → Outcome → Outcome
writing write outcome = record outcome { writes = outcome.writes ++ write ∷ [] }

-- ---- locks

-- the fault of a lock call that is refused; none where the lock was taken or somebody else holds it
abbrev pub lock_refusal : LockAnswer → List Fault
lock_refusal locking.Taken = []
lock_refusal locking.Held = []
lock_refusal (locking.Refused lock_fault) = fault.Lock lock_fault ∷ []

-- the fault of an unlock call that is refused; none where the lock was freed
abbrev pub unlock_refusal : UnlockAnswer → List Fault
unlock_refusal unlocking.Freed = []
unlock_refusal (unlocking.Refused lock_fault) = fault.Lock lock_fault ∷ []

-- after the handler asked for a lock
abbrev pub took_lock : Frame → (lock : ℕ) → Outcome → Outcome
took_lock frame lock outcome = record outcome {
  locks = after_lock outcome.locks owner.Handler lock frame.listed;
  refused = outcome.refused ++ lock_refusal (lock_answer outcome.locks owner.Handler lock frame.listed);
}

-- after the handler gave a lock back
abbrev pub gave_lock : (lock : ℕ) → Outcome → Outcome
gave_lock lock outcome = record outcome {
  locks = after_unlock outcome.locks owner.Handler lock;
  refused = outcome.refused ++ unlock_refusal (unlock_answer outcome.locks owner.Handler lock);
}

-- ---- replies

-- the payload goes to a place that passes the end of the segment
abbrev pub passes_end : (segment : ℕ) → Content → Bool
passes_end segment content = is_long (code content.kind) && nat_lt segment (content.offset + length content.payload)

-- what may be wrong with the parts of a reply: no handler of replies is registered for its index; it has too many
-- arguments; its payload is too long; the payload's place passes the end of the requester's segment
abbrev pub reply_faults : Parameters → List (Option Entry) → Content → List (Bool × Which)
reply_faults settings table content =
    (not (is_for_replies (entry_at table content.handler)), which.Handler)
    ∷ (nat_lt 16 (length content.args), which.Count)
    ∷ (nat_lt MAX_PAYLOAD (length content.payload), which.Payload)
    ∷ (passes_end settings.segment content, which.Offset)
    ∷ []

-- the first part that is wrong; Sent where none is
abbrev pub first_fault : List (Bool × Which) → Replied
first_fault [] = replied.Sent
first_fault (line ∷ rest) = if line.0 then replied.BadArg line.1 else first_fault rest

-- the answer to a reply, from how the rule table judges it and what may be wrong with its parts
abbrev pub answer_by : Result (Unit {0}) Forbidden → List (Bool × Which) → Replied
answer_by (Err forbidden) faults = replied.Forbidden forbidden
answer_by (Ok allowed) faults = first_fault faults

-- the answer to a reply that the handler asks for
abbrev pub answer : Frame → Content → Outcome → Replied
answer frame content outcome =
    answer_by (judgement frame call.Reply outcome) (reply_faults frame.settings frame.table content)

-- what the answer to a reply leaves: it is sent, or its refusal is kept, or nothing happened
abbrev pub after_answer : Replied → Content → Outcome → Outcome
after_answer replied.Sent content outcome = record outcome { reply = Some content }
after_answer (replied.Forbidden forbidden) content outcome = record outcome {
  refused = outcome.refused ++ fault.Rule forbidden ∷ [];
}
after_answer (replied.BadArg part) content outcome = outcome

-- after a reply that the handler asked for
abbrev pub replying : Frame → Content → Outcome → Outcome
replying frame content outcome = after_answer (answer frame content outcome) content outcome

-- the kind is that of a reply that a handler sends
abbrev pub is_reply_kind : Kind → Bool
is_reply_kind kind.ShortRequest = false
is_reply_kind kind.MediumRequest = false
is_reply_kind kind.LongRequest = false
is_reply_kind kind.ShortReply = true
is_reply_kind kind.MediumReply = true
is_reply_kind kind.LongReply = true
is_reply_kind kind.Ack = false

-- a reply as one of the three calls asks for it: a Short one has no payload, and only a Long one has an offset
pub record IsReplyContent (content : Content) : Type 0 where
  pub kind : is_reply_kind content.kind ≡ true
  pub bare : is_bare (code content.kind) ≡ true → content.payload ≡ []
  pub unplaced : is_long (code content.kind) ≡ false → content.offset ≡ 0

-- a reply that the rule table and its parts let through
pub record IsGood (frame : Frame) (content : Content) : Type 0 where
  pub for_request : frame.arrival.role ≡ role.Request
  pub registered : is_for_replies (entry_at frame.table content.handler) ≡ true
  pub few : length content.args ≤ 16
  pub small : length content.payload ≤ MAX_PAYLOAD
  pub inside : is_long (code content.kind) ≡ true →
      content.offset + length content.payload ≤ frame.settings.segment
  pub reply : IsReplyContent content

-- there is no reply, or it is one that was let through
abbrev pub IsLawful : Frame → Option Content → Type 0
IsLawful frame None = Unit {0}
IsLawful frame (Some content) = IsGood frame content

-- what each run is: its reply is one that was let through, it wrote inside the segment, and it left the locks of
-- threads
pub record IsLawfulRun (frame : Frame) (start : Start) (outcome : Outcome) : Type 0 where
  pub reply : IsLawful frame outcome.reply
  pub writes : AllFit (length start.segment) outcome.writes
  pub locks : without owner.Handler outcome.locks ≡ without owner.Handler start.locks

-- where the reply to a message goes
abbrev pub reply_address : Parameters → Arrival → Address
reply_address settings arrival = record {
  version = settings.version;
  job = settings.job;
  from = arrival.me;
  to = arrival.source;
  slot = arrival.slot;
  number = arrival.number;
}

-- the reply on its way
abbrev pub outgoing_reply : Parameters → Arrival → Content → Message
outgoing_reply settings arrival content = message_at_address (reply_address settings arrival) content

-- the bytes of a reply: its datagram; where the message came from the local node, its payload alone
abbrev pub reply_bytes : Parameters → Arrival → Content → List ℕ
reply_bytes settings arrival content =
    if arrival.source == arrival.me then content.payload else spelling (outgoing_reply settings arrival content)

-- there is no reply, or it stays at the local node, or it has a spelling
abbrev pub IsSpelled : Frame → Option Content → Type 0
IsSpelled frame None = Unit {0}
IsSpelled frame (Some content) =
    frame.arrival.source ≢ frame.arrival.me → IsMessage (outgoing_reply frame.settings frame.arrival content)

-- what is asked of a message and the buffer for its reply: at most 16 arguments; for a request the room of the longest
-- datagram and, unless it came from the local node, a number
pub record IsReady (arrival : Arrival) (buffer : List ℕ) : Type 0 where
  pub few : length arrival.args ≤ 16
  pub room : arrival.role ≡ role.Request → length buffer ≡ MAX_DATAGRAM
  pub numbered : arrival.role ≡ role.Request → arrival.source ≢ arrival.me → 1 ≤ arrival.number

-- no thread holds a lock that the handler may take, and the handler holds none
pub record AreFree (listed : ℕ) (locks : List Held) : Type 0 where
  pub unblocked : blocking_lock locks listed ≡ None
  pub unheld : holds owner.Handler locks ≡ false

-- the place of a Long's payload lies inside a segment of this length; other messages have none
abbrev pub IsPlaced : (segment : ℕ) → Option (ℕ × ℕ) → Type 0
IsPlaced segment None = Unit {0}
IsPlaced segment (Some place) = place.0 + place.1 ≤ segment

-- ---- meanings

-- the handlers' meaning: what a run gives, by the handler's index, what stays the same while it runs, and what it finds
abbrev pub Meaning : Type 0
Meaning = (handler : ℕ) → Frame → Start → Outcome

-- each run is lawful
abbrev pub IsLawfulMeaning : Meaning → Type 0
IsLawfulMeaning meaning =
    (handler : ℕ) (frame : Frame) (start : Start) → IsLawfulRun frame start (meaning handler frame start)
