-- What a node does: by the handlers that its client registered, and by the library's own.
-- Origin: GASNet 1.8.1, core API, active messages: handlers and their rules; handler-safe locks. That a message waits
-- for a lock is this project's profile.
use Rattle.std.specs.Prelude.{ℕ, ℤ, ◌≡◌, ◌≤◌, ◌++◌, ◌∷◌, [], ◌+◌, Bool, true, false, not, ◌||◌, ◌&&◌, List}
use Rattle.std.specs.Prelude.{if◌then◌else◌}
use Rattle.std.specs.Prelude.{Option, None, Some, length, map, nat_lt, bit_or}
use Rattle.wire_message.specs.Parameters.{Parameters}
use Rattle.wire_message.specs.Content.{Content, code, is_ack, is_request}
use Rattle.wire_message.specs.Content.{short_request, medium_request, long_request}
use Rattle.part_segment.specs.Bytes.{part}
use Rattle.part_handlers.specs.declared.lock_answer.Held.{Held}
use Rattle.part_handlers.specs.declared.lock_answer.Owner.TheVariants as owner
use Rattle.part_handlers.specs.Locks.{blocking_lock, holds}
use Rattle.part_handlers.specs.declared.table.Entry.{Entry}
use Rattle.part_handlers.specs.declared.rules.Context.TheVariants.{Thread}
use Rattle.part_handlers.specs.declared.rules.Fault.{Fault}
use Rattle.part_handlers.specs.declared.rules.Fault.TheVariants as fault
use Rattle.part_handlers.specs.declared.rules.Violation.{Violation}
use Rattle.part_handlers.specs.declared.message.Which.{Which}
use Rattle.part_handlers.specs.declared.message.Which.TheVariants as which
use Rattle.part_handlers.specs.Rules.{rule}
use Rattle.part_handlers.specs.Registered.{entry_at, is_for_requests, is_for_replies, reply_locks}
use Rattle.part_handlers.specs.Runs.{Meaning, passes_end}
use Rattle.spec_node.specs.declared.answer.Why.{Why}
use Rattle.spec_node.specs.declared.answer.Why.TheVariants as why
use Rattle.spec_node.specs.declared.answer.Ticked.TheVariants as ticked
use Rattle.spec_node.specs.Behaviour.{Behaviour, Asking, Ask, Category, Short, Medium, Long, PayloadFrom, Lent, Own}
use Rattle.node_core.specs.Kept.{Local, segment_of}
use Rattle.node_core.specs.Library.{is_library, library_refusal, run_answer}
use Rattle.node_core.specs.HandlerRuns.{handlers_of, run_request, run_reply, listed_for}
use Rattle.wire_message.specs.declared.limits.TheConstants.{MAX_PAYLOAD}

-- ---- requests

-- a payload, where the local segment has these bytes
abbrev pub payload_in : (segment : List ℕ) → PayloadFrom → List ℕ
payload_in segment (Lent bytes) = bytes
payload_in segment (Own offset len) = part segment offset len

-- a request of that category with this payload, as content; a Short one has none
abbrev pub content_by : Category → Asking → (payload : List ℕ) → Content
content_by Short asking payload = short_request asking.handler asking.args
content_by Medium asking payload = medium_request asking.handler asking.args payload
content_by Long asking payload = long_request asking.handler asking.args asking.offset payload

-- what a client asks for, as the content of a request, where the local segment has these bytes
abbrev pub said_in : (segment : List ℕ) → Asking → Content
said_in segment asking = content_by asking.category asking (payload_in segment asking.payload)

-- a request that a thread asks of a node
abbrev pub asks_of : (thread to : ℕ) → Asking → Ask
asks_of thread to asking = record { thread = thread; to = to; what = asking }

-- a Short request
abbrev pub short_asking : (handler : ℕ) → List ℤ → Asking
short_asking handler args =
    record { category = Short; handler = handler; args = args; payload = Lent []; offset = 0 }

-- a Medium request
abbrev pub medium_asking : (handler : ℕ) → List ℤ → PayloadFrom → Asking
medium_asking handler args payload =
    record { category = Medium; handler = handler; args = args; payload = payload; offset = 0 }

-- a Long request, whose payload goes to this offset in the target's segment
abbrev pub long_asking : (handler : ℕ) → List ℤ → PayloadFrom → (offset : ℕ) → Asking
long_asking handler args payload offset =
    record { category = Long; handler = handler; args = args; payload = payload; offset = offset }

-- ---- refusals

-- a handler is registered for the index, with the role of such a message
abbrev pub has_handler : (table : List (Option Entry)) → Content → Bool
has_handler table content =
    if is_request content.kind then is_for_requests (entry_at table content.handler)
    else is_for_replies (entry_at table content.handler)

-- a content is an Ack, or a handler of its role is registered for its index
abbrev pub is_handled : (table : List (Option Entry)) → Content → Bool
is_handled table content = is_ack (code content.kind) || has_handler table content

-- why a content with an index of clients is refused: it is no Ack, and no handler of its role is registered for its
-- index; or it is a Long's, and its place passes the end of the segment
abbrev pub client_refusal : Parameters → (table : List (Option Entry)) → Content → Option Why
client_refusal settings table content =
    if is_handled table content
    then (if passes_end settings.segment content then Some why.Range else None)
    else Some why.Handler

-- why a content is refused
abbrev pub content_refusal : Parameters → (table : List (Option Entry)) → Content → Option Why
content_refusal settings table content =
    if is_library content.handler then library_refusal settings content
    else client_refusal settings table content

-- how many bytes a payload has
abbrev pub payload_len : PayloadFrom → ℕ
payload_len (Lent bytes) = length bytes
payload_len (Own offset len) = len

-- the payload is a range that passes the end of the local segment
abbrev pub passes_source : (segment : ℕ) → PayloadFrom → Bool
passes_source segment (Lent bytes) = false
passes_source segment (Own offset len) = nat_lt segment (offset + len)

-- the request has a payload
abbrev pub has_payload : Category → Bool
has_payload Short = false
has_payload Medium = true
has_payload Long = true

-- its payload goes to a place of the target's segment
abbrev pub has_place : Category → Bool
has_place Short = false
has_place Medium = false
has_place Long = true

-- what may be wrong with a request beside its target, in order: no handler of requests is registered for the index;
-- there are more than 16 arguments; the payload has more than 8,192 bytes; it is a range that passes the end of the local
-- segment; its place passes the end of the target's
abbrev pub asking_faults : Parameters → (table : List (Option Entry)) → Asking → List (Bool × Which)
asking_faults settings table asking =
    (not (is_for_requests (entry_at table asking.handler)), which.Handler)
    ∷ (nat_lt 16 (length asking.args), which.Count)
    ∷ (has_payload asking.category && nat_lt MAX_PAYLOAD (payload_len asking.payload), which.Payload)
    ∷ (has_payload asking.category && passes_source settings.segment asking.payload, which.Source)
    ∷ (has_place asking.category && nat_lt settings.segment (asking.offset + payload_len asking.payload), which.Offset)
    ∷ []

-- the first part that is bad
abbrev pub first_bad : List (Bool × Which) → Option Which
first_bad [] = None
first_bad (line ∷ rest) = if line.0 then Some line.1 else first_bad rest

-- the first part of a request that is bad
abbrev pub asking_fault : Parameters → (table : List (Option Entry)) → Asking → Option Which
asking_fault settings table asking = first_bad (asking_faults settings table asking)

-- a request with nothing wrong beside its target, where each segment has so many bytes
pub record IsFine (segment : ℕ) (asking : Asking) : Type 0 where
  pub handler : 128 ≤ asking.handler
  pub few : length asking.args ≤ 16
  pub small : has_payload asking.category ≡ true → payload_len asking.payload ≤ MAX_PAYLOAD
  pub source : has_payload asking.category ≡ true → passes_source segment asking.payload ≡ false
  pub inside : has_place asking.category ≡ true → asking.offset + payload_len asking.payload ≤ segment

-- ---- locks

-- the smallest lock that a thread holds among those that the handler of this index may take, or that of any reply
abbrev pub busy_lock : (table : List (Option Entry)) → (handler : ℕ) → List Held → Option ℕ
busy_lock table handler held = blocking_lock held (bit_or (listed_for table handler) (reply_locks table))

-- the smallest lock that a thread holds among those that the message's handler may take; an Ack has no handler
abbrev pub awaited_lock : (table : List (Option Entry)) → Content → List Held → Option ℕ
awaited_lock table content held =
    if is_ack (code content.kind) then None else blocking_lock held (listed_for table content.handler)

-- ---- the behaviour

-- the violation of a thread's call
abbrev pub thread_violation : (thread : ℕ) → Fault → Violation
thread_violation thread found = record { context = Thread thread; fault = found }

-- after these faults of a thread's calls were noted
abbrev pub with_violations : (thread : ℕ) → List Fault → Local → Local
with_violations thread faults local =
    record local { violations = local.violations ++ map (thread_violation thread) faults }

-- what a node does by these handlers, registered in this table
abbrev pub rules : Parameters → List (Option Entry) → Meaning → Behaviour Local
rules settings table meaning = record {
  judges = λ thread kind local. rule (Thread thread) (holds (owner.Thread thread) local.locks) false kind;
  notes = λ thread forbidden local. with_violations thread (fault.Rule forbidden ∷ []) local;
  faults = asking_fault settings table;
  says = λ asking local. said_in (segment_of settings local) asking;
  refuses = content_refusal settings table;
  busy = λ content local. busy_lock table content.handler local.locks;
  waits = λ content local. awaited_lock table content local.locks;
  run = run_request (handlers_of settings table meaning);
  take = run_reply (handlers_of settings table meaning);
  runs_as = run_answer settings.version;
  next = λ me can local. None;
  issued = λ contact content local. local;
  sends_as = λ content at. ticked.Chunk at;
}
