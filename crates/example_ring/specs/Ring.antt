-- What the handlers of the ring do.
use Rattle.std.specs.Prelude.{ℕ, ℤ, pos, ◌==◌, if◌then◌else◌, List, [], ◌∷◌, slice_set, slice_index_or}
use Rattle.std.specs.Int.{w32, int_wrapping_add}
use Rattle.gasnet.specs.Messages.{short_reply}
use Rattle.gasnet.specs.Handlers.{Frame, Start, Outcome, replying, nothing_done}

-- the cells after one of them rose by 1, wrapping
abbrev pub cell_after_count : List ℤ → (cell : ℕ) → List ℤ
cell_after_count cells cell = slice_set cells cell (int_wrapping_add w32 (slice_index_or cells cell (pos 0)) (pos 1))

-- how many times the message was passed on, as its message says
abbrev pub hops_in : Frame → ℤ
hops_in frame = slice_index_or frame.arrival.args 0 (pos 0)

-- cell 0 becomes the hops, cell 1 rises by 1, and they are replied to handler 129
abbrev pub message_comes : Frame → Start → Outcome
message_comes frame start =
    replying frame (short_reply 129 (hops_in frame ∷ []))
    (record (nothing_done start) { cells = cell_after_count (slice_set start.cells 0 (hops_in frame)) 1 })

-- cell 2 rises by 1
abbrev pub message_came : Start → Outcome
message_came start = record (nothing_done start) { cells = cell_after_count start.cells 2 }

-- what each handler does
abbrev pub ring_meaning : (handler : ℕ) → Frame → Start → Outcome
ring_meaning handler frame start = if handler == 128 then message_comes frame start else message_came start
