-- What the body of a handler does.
use Rattle.std.specs.Prelude.{ℕ, ℤ, pos, ◌+◌, ◌+ℤ◌, ◌==◌, ◌||◌, ◌&&◌, Bool, List, map, length, slice_index_or}
use Rattle.std.specs.Prelude.{slice_set}
use Rattle.std.specs.Prelude.{Option, Some, None, nat_lt, if◌then◌else◌}
use Rattle.std.specs.List.{fold, sum}
use Rattle.std.specs.Int.{w32, int_wrap}
use Rattle.std.specs.Option.{option_map}
use Rattle.part_segment.specs.Bytes.{part}
use Rattle.part_segment.specs.Image.{Write, overwritten, written_by}
use Rattle.wire_message.specs.Content.{Content, short_reply, medium_reply, long_reply}
use Rattle.part_handlers.specs.Runs.{Arrival, Frame, Start, Outcome, nothing_done, after_attempt, took_lock, gave_lock}
use Rattle.part_handlers.specs.Runs.{writing, replying}
use Rattle.part_collective_area.specs.Served.{collective_handler, outcome_of_piece}
use Rattle.node_atomics.specs.BatchRequests.{batch_handler, block_handler}
use Rattle.node_atomics.specs.Served.{outcome_of_batch}
use Rattle.text_calls.specs.declared.values.Operand.{Operand}
use Rattle.text_calls.specs.declared.values.Operand.TheVariants as operand
use Rattle.text_calls.specs.declared.values.Payload.{Payload}
use Rattle.text_calls.specs.declared.values.Payload.TheVariants as payload
use Rattle.text_steps.specs.declared.steps.Action.{Action}
use Rattle.text_steps.specs.declared.steps.Action.TheVariants as action
use Rattle.text_steps.specs.declared.steps.ReplyAction.{ReplyAction}
use Rattle.text_steps.specs.declared.steps.ReplyAction.TheVariants as reply
use Rattle.text_script.specs.Registration.{JobHandlers, body_for}

-- ---- numbers

-- the number of an operand, by the cells and the message's arguments
abbrev pub operand_value : (cells args : List ℤ) → Operand → ℤ
operand_value cells args (operand.Number number) = number
operand_value cells args (operand.Cell cell) = slice_index_or cells cell (pos 0)
operand_value cells args (operand.Argument place) = slice_index_or args place (pos 0)

-- the number of an operand of an action that begins after this outcome
abbrev pub operand_at : Frame → Outcome → Operand → ℤ
operand_at frame outcome operand = operand_value outcome.cells frame.arrival.args operand

-- the outcome, where the cell has this number
abbrev pub with_cell : Outcome → (cell : ℕ) → ℤ → Outcome
with_cell outcome cell number = record outcome { cells = slice_set outcome.cells cell number }

-- the outcome, where the cell rose by this number, wrapping
abbrev pub with_cell_raised : Outcome → (cell : ℕ) → ℤ → Outcome
with_cell_raised outcome cell number =
    with_cell outcome cell (int_wrap w32 (slice_index_or outcome.cells cell (pos 0) +ℤ number))

-- ---- bytes

-- the local segment as an action finds it that begins after this outcome
abbrev pub segment_at : Start → Outcome → List ℕ
segment_at start outcome = written_by start.segment outcome.writes

-- the bytes at a place of the segment; these, where there is no place
abbrev pub placed_bytes : List ℕ → (segment : List ℕ) → Option (ℕ × ℕ) → List ℕ
placed_bytes bytes segment None = bytes
placed_bytes bytes segment (Some place) = part segment place.0 place.1

-- the payload of the message as an action finds it: of a Long the bytes at its place, of a Short none
abbrev pub message_bytes : Arrival → (segment : List ℕ) → List ℕ
message_bytes arrival segment = placed_bytes arrival.payload segment arrival.place

-- the bytes of a range of the segment; none where it passes the end
abbrev pub range_bytes : (segment : List ℕ) → (offset len : ℕ) → Option (List ℕ)
range_bytes segment offset len =
    if nat_lt (length segment) (offset + len) then None else Some (part segment offset len)

-- the bytes of a payload of an action; none where its range is outside the segment
abbrev pub payload_bytes : Arrival → (segment : List ℕ) → Payload → Option (List ℕ)
payload_bytes arrival segment (payload.Bytes bytes) = Some bytes
payload_bytes arrival segment (payload.Range offset len) = range_bytes segment offset len
payload_bytes arrival segment payload.Message = Some (message_bytes arrival segment)

-- how a payload is kept at an offset of a segment of that length: where there is one, and it fits
abbrev pub kept_write : (len offset : ℕ) → List ℕ → Option Write
kept_write len offset bytes =
    if (length bytes == 0) || nat_lt len (offset + length bytes) then None
    else Some (record { offset = offset; bytes = bytes })

-- the outcome after a write, if there is one
abbrev pub writing_if : Option Write → Outcome → Outcome
writing_if None outcome = outcome
writing_if (Some write) outcome = writing write outcome

-- the segment after a write, if there is one
abbrev pub overwritten_if : Option Write → List ℕ → List ℕ
overwritten_if None segment = segment
overwritten_if (Some write) segment = overwritten segment write

-- ---- actions

-- a reply as an action asks for it; none where its payload is a range outside the segment
abbrev pub reply_content : Arrival → (segment : List ℕ) → (values : List Operand → List ℤ) → ReplyAction
    → Option Content
reply_content arrival segment values (reply.Short handler operands) = Some (short_reply handler (values operands))
reply_content arrival segment values (reply.Medium handler load operands) =
    option_map (λ bytes. medium_reply handler (values operands) bytes) (payload_bytes arrival segment load)
reply_content arrival segment values (reply.Long handler load offset operands) =
    option_map (λ bytes. long_reply handler (values operands) offset bytes) (payload_bytes arrival segment load)

-- the outcome after a reply was asked for, if one was
abbrev pub replying_if : Frame → Option Content → Outcome → Outcome
replying_if frame None outcome = outcome
replying_if frame (Some content) outcome = replying frame content outcome

-- after a reply of a body. One whose own range is outside the segment isn't asked for, and no rule judges it
abbrev pub after_reply : Frame → Start → Outcome → ReplyAction → Outcome
after_reply frame start outcome asked =
    replying_if frame
    (reply_content frame.arrival (segment_at start outcome) (map (operand_at frame outcome)) asked) outcome

-- after an action of a body, whatever came before it. A refusal doesn't end the body
abbrev pub act : Frame → Start → Outcome → Action → Outcome
act frame start outcome (action.Add cell operand) = with_cell_raised outcome cell (operand_at frame outcome operand)
act frame start outcome (action.SetCell cell operand) = with_cell outcome cell (operand_at frame outcome operand)
act frame start outcome (action.Source cell) = with_cell outcome cell (pos frame.arrival.source)
act frame start outcome (action.Sum cell) =
    with_cell_raised outcome cell (pos (sum (message_bytes frame.arrival (segment_at start outcome))))
act frame start outcome (action.Keep offset) =
    writing_if (kept_write (length start.segment) offset frame.arrival.payload) outcome
act frame start outcome (action.Lock lock) = took_lock frame lock outcome
act frame start outcome (action.Unlock lock) = gave_lock lock outcome
act frame start outcome (action.Attempt kind) = after_attempt frame kind outcome
act frame start outcome (action.Reply asked) = after_reply frame start outcome asked

-- after the actions of a body, in order
abbrev pub acts : Frame → Start → Outcome → List Action → Outcome
acts frame start outcome actions = fold (act frame start) outcome actions

-- ---- handlers

-- the handler of this index is one of batches of atomic operations
abbrev pub is_for_batches : JobHandlers → (index : ℕ) → Bool
is_for_batches handlers index = handlers.atomics && ((index == batch_handler) || (index == block_handler))

-- the handler of this index is that of collectives
abbrev pub is_for_collectives : JobHandlers → (index : ℕ) → Bool
is_for_collectives handlers index = handlers.collect && (index == collective_handler)

-- what the run of a handler gives that isn't one of batches: that of collectives writes what its message says, and
-- another one does what its text says
abbrev pub other_meaning : JobHandlers → (index : ℕ) → Frame → Start → Outcome
other_meaning handlers index frame start =
    if is_for_collectives handlers index then outcome_of_piece frame start (nothing_done start)
    else acts frame start (nothing_done start) (body_for handlers index)

-- what the run of a handler of a job gives: one of batches serves them
abbrev pub script_meaning : JobHandlers → (index : ℕ) → Frame → Start → Outcome
script_meaning handlers index frame start =
    if is_for_batches handlers index then outcome_of_batch index frame start (nothing_done start)
    else other_meaning handlers index frame start
