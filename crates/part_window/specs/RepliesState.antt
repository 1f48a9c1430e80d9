-- What the kept replies are, as a value, and what each call makes of it.
use Rattle.std.specs.Prelude.{ℕ, ◌≡◌, ◌<◌, Bool, not, ◌==◌, List, [], length, take, Option, Some, None}
use Rattle.std.specs.Prelude.{slice_get, IfSome, IsSomeAnd, option_and_then, count_by, sum_by, if◌then◌else◌}
use Rattle.std.proofs.Math.ListN.{replicate}
use Rattle.base_lists.specs.Update.{update}
use Rattle.part_window.specs.declared.replies.Judged.{Judged}
use Rattle.part_window.specs.declared.replies.Judged.TheVariants.{New, Duplicate, Stale}
use Rattle.part_window.specs.declared.table.TheConstants.{BUFFER_BYTES}
pub use Rattle.part_window.specs.TableState.{counts_of, refill}

-- a slot of one peer
pub data ReplyState : Type 0 where
  Unused : ReplyState  -- nothing ran in the slot
  Opened : ℕ → List ℕ → ReplyState  -- last number, what stands in the buffer: placed, not yet committed
  Kept : ℕ → List ℕ → ReplyState  -- last number, the reply's bytes

-- for each node, the state of each of its slots
pub record RepliesState : Type 0 where
  pub peers : List (List ReplyState)

-- the number of the last request that ran in the slot: 0 where none did
abbrev pub last_number : ReplyState → ℕ
last_number Unused = 0
last_number (Opened number buffer) = number
last_number (Kept number message) = number

-- a request ran in the slot
abbrev pub has_run : ReplyState → Bool
has_run state = not (last_number state == 0)

-- the slot is opened, and so lends its buffer
abbrev pub IsOpened : ReplyState → Type 0
IsOpened Unused = ⊥
IsOpened (Opened number buffer) = Unit {0}
IsOpened (Kept number message) = ⊥

-- what stands in the buffer of an opened slot
abbrev pub opened_bytes : ReplyState → List ℕ
opened_bytes Unused = []
opened_bytes (Opened number buffer) = buffer
opened_bytes (Kept number message) = []

-- the number of the request whose reply the slot keeps
abbrev pub message_number : ReplyState → Option ℕ
message_number Unused = None
message_number (Opened number buffer) = None
message_number (Kept number message) = Some number

-- the reply that a slot keeps
abbrev pub message_of : ReplyState → Option (List ℕ)
message_of Unused = None
message_of (Opened number buffer) = None
message_of (Kept number message) = Some message

-- an opened slot with these bytes written into its buffer
abbrev pub with_written : List ℕ → ReplyState → ReplyState
with_written written Unused = Unused
with_written written (Opened number buffer) = Opened number (refill buffer written)
with_written written (Kept number message) = Kept number message

-- an opened slot is committed: its reply is the first bytes of its buffer
abbrev pub as_committed : ℕ → ReplyState → ReplyState
as_committed len Unused = Unused
as_committed len (Opened number buffer) = Kept number (take len buffer)
as_committed len (Kept number message) = Kept number message

-- how a request's number stands to the last number of the slot
abbrev pub Judges : ReplyState → ℕ → Judged → Type 0
Judges state number New = last_number state < number
Judges state number Duplicate = number ≡ last_number state
Judges state number Stale = number < last_number state

-- a slot of a node, if there is one
abbrev pub slot_at : RepliesState → ℕ → ℕ → Option ReplyState
slot_at table from slot = option_and_then (λ peer. slice_get peer slot) (slice_get table.peers from)

-- how many slots there are for a node: 0 where there is no such node
abbrev pub slot_count : RepliesState → ℕ → ℕ
slot_count table from = elim (slice_get table.peers from) [ Some peer ↦ length peer | None ↦ 0 ]

-- the slot of this node is opened
abbrev pub IsOpenedAt : RepliesState → ℕ → ℕ → Type 0
IsOpenedAt table from slot = IsSomeAnd (slot_at table from slot) IsOpened

-- what stands in the buffer of an opened slot of this node
abbrev pub opened_bytes_at : RepliesState → ℕ → ℕ → List ℕ
opened_bytes_at table from slot = elim (slot_at table from slot) [ Some state ↦ opened_bytes state | None ↦ [] ]

-- the reply that a slot of this node keeps
abbrev pub kept_message_at : RepliesState → ℕ → ℕ → Option (List ℕ)
kept_message_at table from slot = option_and_then message_of (slot_at table from slot)

-- the number of the request whose reply a slot of this node keeps
abbrev pub kept_number_at : RepliesState → ℕ → ℕ → Option ℕ
kept_number_at table from slot = option_and_then message_number (slot_at table from slot)

-- how a request's number stands to the last number of a slot of this node
abbrev pub JudgesAt : RepliesState → ℕ → ℕ → ℕ → Judged → Type 0
JudgesAt table from slot number judged = IfSome (slot_at table from slot) (λ state. Judges state number judged)

-- one slot of one node is changed
abbrev pub with_slot_changed : RepliesState → ℕ → ℕ → (ReplyState → ReplyState) → RepliesState
with_slot_changed table from slot change =
    record table { peers = update table.peers from (λ peer. update peer slot change) }

-- one slot of one node has a new state
abbrev pub with_slot : RepliesState → ℕ → ℕ → ReplyState → RepliesState
with_slot table from slot state =
    record table { peers = update table.peers from (λ peer. update peer slot (λ _. state)) }

-- the slot keeps this reply, to the request with this number
abbrev pub with_reply : RepliesState → ℕ → ℕ → ℕ → List ℕ → RepliesState
with_reply table from slot number message = with_slot table from slot (Kept number message)

-- the slot is opened for the request with this number, with some buffer, and nothing else changes
pub record Places (old : RepliesState) (from slot number : ℕ) (new : RepliesState) : Type 0 where
  pub buffer : List ℕ
  pub whole : length buffer ≡ BUFFER_BYTES
  pub opened : new ≡ with_slot old from slot (Opened number buffer)

-- in how many slots of the peer a request ran
abbrev pub run_count : List ReplyState → ℕ
run_count peer = count_by has_run peer

-- in how many slots of the whole table a request ran
abbrev pub held_count : RepliesState → ℕ
held_count table = sum_by run_count table.peers

-- how many slots there are in the whole table
abbrev pub room : RepliesState → ℕ
room table = sum_by (λ peer. length peer) table.peers

-- nothing ran in any slot: as many slots as there are credits for each other node, and none for the node itself
pub record IsNew (credits : List ℕ) (me : ℕ) (table : RepliesState) : Type 0 where
  pub nodes : length table.peers ≡ length credits
  pub peers : (node count : ℕ) → slice_get credits node ≡ Some count
      → slice_get table.peers node ≡ Some (replicate (if node == me then 0 else count) Unused)
