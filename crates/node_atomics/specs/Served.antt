-- What the handlers of batches do.
use Rattle.std.specs.Prelude.{ℕ, ◌≡◌, ◌==◌, if◌then◌else◌, List, [], ◌∷◌, ◌++◌, length, Option, None, Some, is_none}
use Rattle.std.specs.Prelude.{true}
use Rattle.std.specs.List.{flat_map}
use Rattle.std.specs.Int.{w64, to_le_bytes, from_le_bytes}
use Rattle.part_segment.specs.Bytes.{part}
use Rattle.part_segment.specs.Image.{Write, overwritten, written_by}
use Rattle.wire_message.specs.Content.{Content, long_reply}
use Rattle.part_handlers.specs.declared.serves.Serves.TheVariants as serves
use Rattle.part_handlers.specs.declared.table.Entry.{Entry}
use Rattle.part_handlers.specs.Registered.{entry_at, is_for_requests, is_for_replies}
use Rattle.part_handlers.specs.Runs.{Arrival, Frame, Start, Outcome, Meaning, replying, nothing_done}
use Rattle.part_handlers.specs.Tokens.{At, Stage, frame_of, start_of}
use Rattle.node_atomics.specs.declared.word.WordOp.{WordOp}
use Rattle.node_atomics.specs.Words.{applied_by}
use Rattle.node_atomics.specs.BatchRequests.{BatchRequest, request_said, place_fault, batch_handler, block_handler}

-- ---- operations on a segment

-- the word at an offset, little-endian
abbrev pub word_in : List ℕ → (offset : ℕ) → ℕ
word_in segment offset = from_le_bytes w64 (part segment offset 8)

-- what an operation writes, where the segment has these bytes
abbrev pub change_of : List ℕ → WordOp → Write
change_of segment word =
    record { offset = word.offset; bytes = to_le_bytes w64 (applied_by (word_in segment word.offset) word) }

-- what operations write in order, each on what the one before left
abbrev pub changes_of : List ℕ → List WordOp → List Write
changes_of segment [] = []
changes_of segment (word ∷ later) =
    change_of segment word ∷ changes_of (overwritten segment (change_of segment word)) later

-- what each of them finds
abbrev pub olds_of : List ℕ → List WordOp → List ℕ
olds_of segment [] = []
olds_of segment (word ∷ later) =
    word_in segment word.offset ∷ olds_of (overwritten segment (change_of segment word)) later

-- ---- the reply

-- words and then the tag, little-endian
abbrev pub block_of : List ℕ → (tag : ℕ) → List ℕ
block_of olds tag = flat_map (to_le_bytes w64) (olds ++ tag ∷ [])

-- the reply, where the target's segment had these bytes
abbrev pub block_reply : List ℕ → BatchRequest → Content
block_reply segment request =
    long_reply block_handler [] request.local (block_of (olds_of segment request.ops) request.tag)

-- ---- runs

-- the request, where all its places are good in segments of so many bytes
abbrev pub if_placed : (segment : ℕ) → Option BatchRequest → Option BatchRequest
if_placed segment None = None
if_placed segment (Some request) =
    if is_none (place_fault segment request.local request.ops) then Some request else None

-- what a message asks, where the segment has so many bytes; none where it is none of a batch, or a place isn't good
abbrev pub request_for : (segment : ℕ) → Arrival → Option BatchRequest
request_for segment arrival = if_placed segment (request_said arrival.args arrival.payload)

-- after a batch, where the segment had these bytes: its operations, and then the reply
abbrev pub after_batch : Frame → List ℕ → Option BatchRequest → Outcome → Outcome
after_batch frame segment None outcome = outcome
after_batch frame segment (Some request) outcome =
    replying frame (block_reply segment request)
    (record outcome { writes = outcome.writes ++ changes_of segment request.ops })

-- after the handler of requests, whatever came before it in the run
abbrev pub after_request : Frame → Start → Outcome → Outcome
after_request frame start outcome =
    after_batch frame (written_by start.segment outcome.writes)
    (request_for (length start.segment) frame.arrival) outcome

-- the handler of requests does that, and the one of replies nothing
abbrev pub outcome_of_batch : (handler : ℕ) → Frame → Start → Outcome → Outcome
outcome_of_batch handler frame start outcome =
    if handler == batch_handler then after_request frame start outcome else outcome

-- a batch goes from any outcome so far to the next, wherever the run began
abbrev pub AtBatchDone : BatchRequest → (old new : Stage) → Type 0
AtBatchDone request old new =
    (opening : Stage) (outcome : Outcome) → At opening outcome old
    → At opening (after_batch (frame_of opening.token) old.segment (Some request) outcome) new

-- so does the handler
abbrev pub AtServed : (handler : ℕ) → (old new : Stage) → Type 0
AtServed handler old new =
    (opening : Stage) (outcome : Outcome) → At opening outcome old
    → At opening (outcome_of_batch handler (frame_of opening.token) (start_of opening) outcome) new

-- ---- a job that has batches

-- the entry of the handler of requests, and that of the one of replies
abbrev pub batch_entry : Entry
batch_entry = record { index = batch_handler; serves = serves.Requests; locks = 0 }

abbrev pub block_entry : Entry
block_entry = record { index = block_handler; serves = serves.Replies; locks = 0 }

-- at these indexes are handlers of requests and of replies, as both entries say
pub record HasBatches (table : List (Option Entry)) : Type 0 where
  pub requests : is_for_requests (entry_at table batch_handler) ≡ true
  pub replies : is_for_replies (entry_at table block_handler) ≡ true

-- the handlers run both so, and do nothing else there
pub record ServesBatches (meaning : Meaning) : Type 0 where
  pub requests : (frame : Frame) (start : Start)
      → meaning batch_handler frame start ≡ outcome_of_batch batch_handler frame start (nothing_done start)
  pub replies : (frame : Frame) (start : Start)
      → meaning block_handler frame start ≡ outcome_of_batch block_handler frame start (nothing_done start)
