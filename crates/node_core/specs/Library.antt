-- The library's own messages, which carry transfers and notifications of the barrier from node to node. Of each: what it says,
-- when it is refused, and what its run gives.
-- Origin: GASNet 1.8.1, core API: no client registers a handler with an index below 128; extended API: transfers of
-- memory, memset, split-phase barriers. The handlers and their arguments are this project's profile.
use Rattle.std.specs.Prelude.{ℕ, ℤ, pos, negsuc, ◌+◌, ◌-◌, ◌<◌, ◌≤◌, ◌==◌, Bool, true, false, not, ◌||◌, nat_le, nat_lt}
use Rattle.std.specs.Prelude.{if◌then◌else◌, List, [], ◌∷◌, length, replicate, Option, None, Some}
use Rattle.wire_message.specs.Parameters.{Parameters}
use Rattle.wire_message.specs.Content.{Content, code, is_ack, short_request, long_request, long_reply}
use Rattle.wire_message.specs.declared.kind.Kind.{Kind}
use Rattle.wire_message.specs.declared.kind.Kind.TheVariants as kind
use Rattle.wire_message.specs.declared.notification.BarrierNotification.{BarrierNotification}
use Rattle.wire_message.specs.Notifications.{IsNotification, is_no_notification, notification_arguments, high_half}
use Rattle.wire_message.specs.Notifications.{low_half, joined_halves}
use Rattle.wire_message.specs.Notifications.{argument}
use Rattle.wire_message.specs.Notifications.{mask_of}
use Rattle.part_segment.specs.Bytes.{part}
use Rattle.part_segment.specs.Image.{Write}
use Rattle.part_handlers.specs.Runs.{Start, Outcome, passes_end}
use Rattle.spec_node.specs.declared.answer.SlotRef.{SlotRef}
use Rattle.spec_node.specs.declared.answer.Delivered.{Delivered}
use Rattle.spec_node.specs.declared.answer.Delivered.TheVariants as delivered
use Rattle.spec_node.specs.declared.answer.Why.{Why}
use Rattle.spec_node.specs.declared.answer.Why.TheVariants as why
use Rattle.wire_message.specs.declared.limits.TheConstants.{MAX_PAYLOAD}
pub use Rattle.node_core.specs.declared.library.Fetch.{Fetch}
pub use Rattle.node_core.specs.declared.library.Fill.{Fill}

-- ---- handlers

-- a part of a put: a Long request whose payload goes to its place
abbrev pub put_handler : ℕ
put_handler = 64

-- a part of a get: a Short request, answered by the reply below
abbrev pub get_handler : ℕ
get_handler = 65

-- a part of a memset: a Short request
abbrev pub memset_handler : ℕ
memset_handler = 66

-- a notification of the barrier: a Short request
abbrev pub notification_handler : ℕ
notification_handler = 67

-- the bytes that a get asked for: a Long reply
abbrev pub get_reply_handler : ℕ
get_reply_handler = 68

-- the index is the library's, 0 to 127, and no client's
abbrev pub is_library : (handler : ℕ) → Bool
is_library handler = nat_le handler 127

-- the library has a handler of this index for messages of this kind
abbrev pub has_library : Kind → (handler : ℕ) → Bool
has_library kind.ShortRequest handler =
    (handler == get_handler) || ((handler == memset_handler) || (handler == notification_handler))
has_library kind.MediumRequest handler = false
has_library kind.LongRequest handler = handler == put_handler
has_library kind.ShortReply handler = false
has_library kind.MediumReply handler = false
has_library kind.LongReply handler = handler == get_reply_handler
has_library kind.Ack handler = false

-- ---- what is asked

-- what the library asks of another node
pub data Work : Type 0 where
  -- `len` bytes of the local segment from `local` on go to the other's segment, from `remote` on
  Put : (local remote len : ℕ) → Work
  -- `len` bytes of the other's segment from `remote` on come to the local segment, from `local` on
  Get : (local remote len : ℕ) → Work
  -- `len` bytes of the other's segment from `remote` on become this byte
  Memset : (remote len byte : ℕ) → Work
  -- the other is told this of the barrier
  Notification : BarrierNotification → Work

-- 1 to 8,192 bytes from the offset on, inside a segment of that length
pub record IsChunk (segment offset len : ℕ) : Type 0 where
  pub some : 1 ≤ len
  pub few : len ≤ MAX_PAYLOAD
  pub inside : offset + len ≤ segment

-- its ranges are inside the segments, and its notification is one among the nodes
abbrev pub WorkFits : Parameters → Work → Type 0
WorkFits settings (Put local remote len) =
    IsChunk settings.segment local len × IsChunk settings.segment remote len
WorkFits settings (Get local remote len) =
    IsChunk settings.segment local len × IsChunk settings.segment remote len
WorkFits settings (Memset remote len byte) = IsChunk settings.segment remote len × (byte < 256)
WorkFits settings (Notification notification) = IsNotification settings.nodes notification

-- ---- arguments

-- a get's: the offset there in two halves, the length, the offset here
abbrev pub fetch_arguments : (local remote len : ℕ) → List ℤ
fetch_arguments local remote len =
    high_half remote ∷ low_half remote ∷ pos len ∷ high_half local ∷ low_half local ∷ []

-- a memset's: the offset in two halves, the length, the byte
abbrev pub fill_arguments : (remote len byte : ℕ) → List ℤ
fill_arguments remote len byte = high_half remote ∷ low_half remote ∷ pos len ∷ pos byte ∷ []

-- what the request for some work says, where the asker's segment has these bytes
abbrev pub work_content : (version : ℕ) → (segment : List ℕ) → Work → Content
work_content version segment (Put local remote len) = long_request put_handler [] remote (part segment local len)
work_content version segment (Get local remote len) = short_request get_handler (fetch_arguments local remote len)
work_content version segment (Memset remote len byte) =
    short_request memset_handler (fill_arguments remote len byte)
work_content version segment (Notification notification) =
    short_request notification_handler (notification_arguments version notification)

-- ---- arguments, read again

-- the number of an argument; 0 for one below 0
abbrev pub natural : ℤ → ℕ
natural (pos number) = number
natural (negsuc number) = 0

-- the number whose upper half stands at a place, and its lower half behind it
abbrev pub argument_number : List ℤ → (place : ℕ) → ℕ
argument_number args place = joined_halves (argument args place) (argument args (place + 1))

-- a get, as the node that is asked reads it: a range of its segment, and where its bytes go in the asker's
abbrev pub fetch_said : List ℤ → Fetch
fetch_said args =
    record { remote = argument_number args 0; len = natural (argument args 2); local = argument_number args 3 }

-- a memset, as the node that is asked reads it: a range of its segment, and the byte that fills it
abbrev pub fill_said : List ℤ → Fill
fill_said args =
    record { remote = argument_number args 0; len = natural (argument args 2); byte = natural (argument args 3) }

-- the notification that arguments spell
abbrev pub notification_said : (version : ℕ) → List ℤ → BarrierNotification
notification_said version args = record {
  phase = argument_number args 0;
  mask = mask_of version args;
  id = argument args (length args - 2);
  flags = natural (argument args (length args - 1));
}

-- ---- refusals

-- an argument that isn't 0 to `most`
abbrev pub is_beyond : (most : ℕ) → ℤ → Bool
is_beyond most (pos number) = nat_lt most number
is_beyond most (negsuc number) = true

-- not five arguments, or a length that isn't 0 to 8,192, or a range that passes the end of a segment of this length
abbrev pub is_no_fetch : (segment : ℕ) → List ℤ → Bool
is_no_fetch segment args =
    not (length args == 5)
    || (is_beyond MAX_PAYLOAD (argument args 2)
    || (nat_lt segment ((fetch_said args).remote + (fetch_said args).len)
    || nat_lt segment ((fetch_said args).local + (fetch_said args).len)))

-- not four arguments, or a length that isn't 0 to 8,192, or a byte that isn't 0 to 255, or a range that passes the end
abbrev pub is_no_fill : (segment : ℕ) → List ℤ → Bool
is_no_fill segment args =
    not (length args == 4)
    || (is_beyond MAX_PAYLOAD (argument args 2)
    || (is_beyond 255 (argument args 3)
    || nat_lt segment ((fill_said args).remote + (fill_said args).len)))

-- the arguments aren't those of the library's handler of this index; a put and a get's reply have none
abbrev pub has_wrong_args : Parameters → (handler : ℕ) → List ℤ → Bool
has_wrong_args settings handler args =
    if handler == get_handler then is_no_fetch settings.segment args
    else (if handler == memset_handler then is_no_fill settings.segment args
    else (if handler == notification_handler then is_no_notification settings.version settings.nodes args
    else not (length args == 0)))

-- why a content with an index of the library is refused: it is no Ack, and the library has no handler of its kind for
-- its index; or its arguments are wrong; or it is a Long's, and its place passes the end of the segment
abbrev pub library_refusal : Parameters → Content → Option Why
library_refusal settings content =
    if is_ack (code content.kind) then None
    else (if not (has_library content.kind content.handler) then Some why.Handler
    else (if has_wrong_args settings content.handler content.args then Some why.Args
    else (if passes_end settings.segment content then Some why.Range
    else None)))

-- ---- runs

-- what a memset writes
abbrev pub filling : Fill → Write
filling fill = record { offset = fill.remote; bytes = replicate fill.len fill.byte }

-- what a run writes after the payload landed
abbrev pub library_writes : Content → List Write
library_writes content =
    if content.handler == memset_handler then filling (fill_said content.args) ∷ [] else []

-- the bytes that a get asked for, out of this segment
abbrev pub fetched_content : (segment : List ℕ) → Fetch → Content
fetched_content segment fetch = long_reply get_reply_handler [] fetch.local (part segment fetch.remote fetch.len)

-- the reply of a run; none stands for an Ack
abbrev pub library_reply : (segment : List ℕ) → Content → Option Content
library_reply segment content =
    if content.handler == get_handler then Some (fetched_content segment (fetch_said content.args)) else None

-- what a run of a handler of the library gives, from what it finds after the payload landed
abbrev pub library_outcome : Content → Start → Outcome
library_outcome content start = record {
  cells = start.cells;
  writes = library_writes content;
  locks = start.locks;
  reply = library_reply start.segment content;
  refused = [];
}

-- how a run of a request is answered: with the notification, where it was one
abbrev pub run_answer : (version : ℕ) → Content → SlotRef → Delivered
run_answer version content at =
    if content.handler == notification_handler then delivered.Notified at (notification_said version content.args)
    else delivered.Ran at
