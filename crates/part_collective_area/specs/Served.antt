-- What the handler of collectives does.
use Rattle.std.specs.Prelude.{ℕ, ℤ, ◌≡◌, ◌+◌, ◌-◌, ◌%◌, ◌==◌, ◌&&◌, nat_le, if◌then◌else◌, List, [], ◌∷◌, ◌++◌, length}
use Rattle.std.specs.Prelude.{true, Option, None, Some}
use Rattle.std.specs.Int.{w64, to_le_bytes}
use Rattle.part_segment.specs.Image.{Write}
use Rattle.wire_message.specs.Content.{Content, long_request}
use Rattle.wire_message.specs.Notifications.{high_half, low_half, joined_halves, argument}
use Rattle.part_handlers.specs.declared.table.Entry.{Entry}
use Rattle.part_handlers.specs.Registered.{entry_at, is_for_requests}
use Rattle.part_handlers.specs.Runs.{Frame, Start, Outcome, Meaning, nothing_done}
use Rattle.part_handlers.specs.Tokens.{At, Stage, frame_of, start_of}

-- the handler's index
abbrev pub collective_handler : ℕ
collective_handler = 254

-- ---- the message

-- the stamp and the word of a shape, each as two words with the upper half first
abbrev pub header_arguments : (stamp shape : ℕ) → List ℤ
header_arguments stamp shape = high_half stamp ∷ low_half stamp ∷ high_half shape ∷ low_half shape ∷ []

-- the request that brings a stamp, a shape and data to the data's place
abbrev pub collective_content : (stamp shape offset : ℕ) → List ℕ → Content
collective_content stamp shape offset bytes =
    long_request collective_handler (header_arguments stamp shape) offset bytes

-- the number whose upper half is that argument, and its lower half the one behind it
abbrev pub number_at : List ℤ → (place : ℕ) → ℕ
number_at args place = joined_halves (argument args place) (argument args (place + 1))

-- ---- its run

-- how stamp and shape are written in the 16 bytes before an offset
abbrev pub header_at : (offset stamp shape : ℕ) → List Write
header_at offset stamp shape =
    record { offset = offset - 16; bytes = to_le_bytes w64 stamp }
    ∷ record { offset = offset - 8; bytes = to_le_bytes w64 shape }
    ∷ []

-- what a message has written, where the segment has so many bytes and the data begins there
abbrev pub header_behind : (segment : ℕ) → List ℤ → (offset : ℕ) → List Write
header_behind segment args offset =
    if (length args == 4) && (nat_le 16 offset && ((offset % 8 == 0) && nat_le offset segment))
    then header_at offset (number_at args 0) (number_at args 2)
    else []

abbrev pub header_for : (segment : ℕ) → List ℤ → Option (ℕ × ℕ) → List Write
header_for segment args None = []
header_for segment args (Some place) = header_behind segment args place.0

-- what the handler does, whatever came before it in the run
abbrev pub outcome_of_piece : Frame → Start → Outcome → Outcome
outcome_of_piece frame start outcome = record outcome {
  writes = outcome.writes ++ header_for (length start.segment) frame.arrival.args frame.arrival.place;
}

-- from any outcome so far to the next, wherever the run began
abbrev pub AtStamped : (old new : Stage) → Type 0
AtStamped old new =
    (opening : Stage) (outcome : Outcome) → At opening outcome old
    → At opening (outcome_of_piece (frame_of opening.token) (start_of opening) outcome) new

-- ---- a job that has collectives

-- the handler is registered for requests
abbrev pub HasCollectives : List (Option Entry) → Type 0
HasCollectives table = is_for_requests (entry_at table collective_handler) ≡ true

-- the handlers run it so, and do nothing else there
abbrev pub ServesCollectives : Meaning → Type 0
ServesCollectives meaning =
    (frame : Frame) (start : Start) → meaning collective_handler frame start
    ≡ outcome_of_piece frame start (nothing_done start)
