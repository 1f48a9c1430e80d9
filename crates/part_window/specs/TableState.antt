-- What a table of slots is, as a value, and what each call makes of it.
use Rattle.std.specs.Prelude.{ℕ, ◌≡◌, ◌<◌, ◌+◌, Bool, true, false, not, List, [], length, take, drop, ◌++◌, Option}
use Rattle.std.specs.Prelude.{Some, None, slice_get, slice_set}
use Rattle.std.proofs.Math.ListN.{replicate}
use Rattle.base_lists.specs.Update.{update}
use Rattle.base_lists.specs.Cut.{start_of, count_at, total_of}
use Rattle.part_window.specs.declared.table.TheConstants.{BUFFER_BYTES}

-- a slot of one peer
pub data SlotState : Type 0 where
  Vacant : SlotState  -- nothing has it
  Opened : ℕ → ℕ → List ℕ → SlotState  -- number, time, what stands in the buffer: taken, not yet committed
  Committed : ℕ → ℕ → List ℕ → SlotState  -- number, time, message

-- how many slots each peer has, and the slots of all, one peer's after another's
pub record TableState : Type 0 where
  pub counts : List ℕ
  pub slots : List SlotState

-- a slot of a node, and the number and the time with which it is taken
pub record Claim : Type 0 where
  pub slot : ℕ
  pub number : ℕ
  pub time : ℕ

-- nothing has the slot
abbrev pub is_vacant : SlotState → Bool
is_vacant Vacant = true
is_vacant (Opened number time buffer) = false
is_vacant (Committed number time message) = false

-- something has the slot
abbrev pub is_taken : SlotState → Bool
is_taken state = not (is_vacant state)

-- the slot is opened, and so lends its buffer
abbrev pub IsOpened : SlotState → Type 0
IsOpened Vacant = ⊥
IsOpened (Opened number time buffer) = Unit {0}
IsOpened (Committed number time message) = ⊥

-- the number with which the slot is taken
abbrev pub number_of : SlotState → Option ℕ
number_of Vacant = None
number_of (Opened number time buffer) = Some number
number_of (Committed number time message) = Some number

-- the time with which a slot is opened
abbrev pub opened_time : SlotState → Option ℕ
opened_time Vacant = None
opened_time (Opened number time buffer) = Some time
opened_time (Committed number time message) = None

-- what stands in the buffer of an opened slot
abbrev pub opened_bytes : SlotState → List ℕ
opened_bytes Vacant = []
opened_bytes (Opened number time buffer) = buffer
opened_bytes (Committed number time message) = []

-- the number of the message of a committed slot
abbrev pub message_number : SlotState → Option ℕ
message_number Vacant = None
message_number (Opened number time buffer) = None
message_number (Committed number time message) = Some number

-- the message of a committed slot
abbrev pub message_of : SlotState → Option (List ℕ)
message_of Vacant = None
message_of (Opened number time buffer) = None
message_of (Committed number time message) = Some message

-- the bytes of `old` with `written` at their beginning: a lent buffer keeps its length
abbrev pub refill : List ℕ → List ℕ → List ℕ
refill old written = take (length old) (written ++ drop (length written) old)

-- an opened slot with these bytes written into its buffer
abbrev pub with_written : List ℕ → SlotState → SlotState
with_written written Vacant = Vacant
with_written written (Opened number time buffer) = Opened number time (refill buffer written)
with_written written (Committed number time message) = Committed number time message

-- an opened slot is committed: its message is the first bytes of its buffer
abbrev pub as_committed : ℕ → SlotState → SlotState
as_committed len Vacant = Vacant
as_committed len (Opened number time buffer) = Committed number time (take len buffer)
as_committed len (Committed number time message) = Committed number time message

-- a slot whose message is sent at `now`
abbrev pub as_retransmitted : ℕ → SlotState → SlotState
as_retransmitted now Vacant = Vacant
as_retransmitted now (Opened number time buffer) = Opened number time buffer
as_retransmitted now (Committed number time message) = Committed number now message

-- the place of a slot of a node among the slots of all
abbrev pub place_of : TableState → ℕ → ℕ → ℕ
place_of table node slot = start_of table.counts node + slot

-- the node has this slot
abbrev pub HasSlot : TableState → ℕ → ℕ → Type 0
HasSlot table node slot = slot < count_at table.counts node

-- the state of a slot of a node
abbrev pub slot_in : TableState → ℕ → ℕ → Option SlotState
slot_in table node slot = slice_get table.slots (place_of table node slot)

-- the slots of a node
abbrev pub slots_of : TableState → ℕ → List SlotState
slots_of table node = take (count_at table.counts node) (drop (start_of table.counts node) table.slots)

-- what stands in the buffer of a slot of a node, if it is opened
abbrev pub opened_bytes_in : TableState → ℕ → ℕ → List ℕ
opened_bytes_in table node slot = elim (slot_in table node slot) [ Some state ↦ opened_bytes state | None ↦ [] ]

-- a slot of a node is changed
abbrev pub with_change : TableState → ℕ → ℕ → (SlotState → SlotState) → TableState
with_change table node slot change = record table { slots = update table.slots (place_of table node slot) change }

-- a slot of a node is opened with a number and a time, and with some buffer, and nothing else changes
pub record OpensSlot (old : TableState) (node : ℕ) (claim : Claim) (new : TableState) : Type 0 where
  pub buffer : List ℕ
  pub whole : length buffer ≡ BUFFER_BYTES
  pub opened : new ≡ with_change old node claim.slot (λ _. Opened claim.number claim.time buffer)

-- the slots of each peer, and none for `me`
abbrev pub counts_of : List ℕ → ℕ → List ℕ
counts_of credits me = slice_set credits me 0

-- each peer has as many vacant slots as these, and `me` has none
abbrev pub new_table : List ℕ → ℕ → TableState
new_table credits me =
    record { counts = counts_of credits me; slots = replicate (total_of (counts_of credits me)) Vacant }
