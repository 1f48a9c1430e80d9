-- What the runs of handlers give that C ran already.
use Rattle.std.specs.Prelude.{ℕ, ℤ, pos, ◌+◌, ◌%◌, ◌^◌, ◌==◌, ◌||◌, nat_lt, if◌then◌else◌, List, length, Option, Some}
use Rattle.std.specs.Prelude.{None, slice_index_or, slice_set}
use Rattle.wire_message.specs.Notifications.{high_half, joined_halves, low_half}
use Rattle.part_segment.specs.Image.{Write, overwritten}
use Rattle.wire_message.specs.Content.{short_reply, medium_reply, long_reply}
use Rattle.part_handlers.specs.declared.rules.Role.{Role}
use Rattle.part_handlers.specs.declared.rules.Role.TheVariants as roles
use Rattle.part_handlers.specs.Runs.{Frame, Start, Outcome, Meaning, replying, nothing_done, writing}
use Rattle.node_core.specs.InPlace.{keeping_in}
use Rattle.node_endpoint.specs.EndpointState.{EndpointState}
use Rattle.gasnet_c.specs.declared.replay.Reply.{Reply}
use Rattle.gasnet_c.specs.declared.replay.Run.{Run}
use Rattle.gasnet_c.specs.declared.replay.OwnRuns.{OwnRuns}

-- these bytes from this offset of a segment of that length, where there are some and they fit
abbrev pub kept_write : (len offset : ℕ) → List ℕ → Option Write
kept_write len offset bytes =
    if (length bytes == 0) || nat_lt len (offset + length bytes) then None
    else Some (record { offset = offset; bytes = bytes })

-- what was left at a Long's place
abbrev pub left_write : (len : ℕ) → Option (ℕ × ℕ) → List ℕ → Option Write
left_write len None bytes = None
left_write len (Some place) bytes = kept_write len place.0 bytes

abbrev pub writing_if : Option Write → Outcome → Outcome
writing_if None outcome = outcome
writing_if (Some write) outcome = writing write outcome

abbrev pub overwritten_if : Option Write → List ℕ → List ℕ
overwritten_if None segment = segment
overwritten_if (Some write) segment = overwritten segment write

-- a handler that left these bytes at a Long's place
abbrev pub leaving : List ℕ → Frame → Start → Outcome
leaving left frame start = writing_if (left_write (length start.segment) frame.arrival.place left) (nothing_done start)

-- after the reply that it asked for, if any
abbrev pub answering : Reply → Frame → Outcome → Outcome
answering reply frame outcome =
    if reply.category == 0 then replying frame (short_reply reply.handler reply.args.now) outcome else (
    if reply.category == 1
    then replying frame (medium_reply reply.handler reply.args.now reply.payload.now) outcome else (
    if reply.category == 2
    then replying frame (long_reply reply.handler reply.args.now reply.offset reply.payload.now) outcome
    else outcome))

-- the reply that it asked for alone
abbrev pub asking : Reply → Frame → Start → Outcome
asking reply frame start = answering reply frame (nothing_done start)

-- what the handlers of a delivery mean at a node with this segment, whichever they are: C ran them, they asked for this
-- reply, and left at a Long's place what stands there
abbrev pub asked_in : Option EndpointState → Reply → Meaning
asked_in None reply = λ handler frame start. asking reply frame start
asked_in (Some endpoint) reply = keeping_in endpoint.core.segment (λ handler frame start. asking reply frame start)

-- the handler did this
abbrev pub outcome_of_run : Run → Frame → Start → Outcome
outcome_of_run run frame start = answering run.reply frame (leaving run.left.now frame start)

-- ---- a request to the local node

-- how many of them were counted, modulo 2^64: the number in two cells, the low half first
abbrev pub own_count : List ℤ → ℕ
own_count cells = joined_halves (slice_index_or cells 1 (pos 0)) (slice_index_or cells 0 (pos 0))

-- the two cells have this number
abbrev pub with_count : (count : ℕ) → List ℤ → List ℤ
with_count count cells = slice_set (slice_set cells 0 (low_half count)) 1 (high_half count)

-- one more is counted
abbrev pub with_one_more : List ℤ → List ℤ
with_one_more cells = with_count ((own_count cells + 1) % 2 ^ 64) cells

-- what the request's handler finds, which is counted
abbrev pub with_own_run : Start → Start
with_own_run start = record start { cells = with_one_more start.cells }

-- the request's handler did this, and was counted; the reply's left those bytes at a Long's place
abbrev pub replayed_as : Role → OwnRuns → Frame → Start → Outcome
replayed_as roles.Request it frame start = outcome_of_run it.request frame (with_own_run start)
replayed_as roles.Reply it frame start = leaving it.reply.bytes.now frame start

abbrev pub both_replayed : OwnRuns → Frame → Start → Outcome
both_replayed it frame start = replayed_as frame.arrival.role it frame start

-- the handlers mean that, whichever they are
abbrev pub both_replayed_by : OwnRuns → Meaning
both_replayed_by it = λ handler frame start. both_replayed it frame start
