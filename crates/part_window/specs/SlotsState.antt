-- What a requester's slots are, as a value, and what each call makes of them.
use Rattle.std.specs.Prelude.{ℕ, ◌≡◌, ◌≤◌, ◌<◌, ◌+◌, Bool, true, List, [], length, Option, Some, None, nat_le}
use Rattle.std.specs.Prelude.{slice_get, position, IfSome, IsSomeAnd, option_and_then, count_by, sum_by, if◌then◌else◌}
use Rattle.std.specs.Prelude.{◌==◌}
use Rattle.std.specs.Option.{option_map}
use Rattle.std.proofs.Math.ListN.{replicate}
use Rattle.base_lists.specs.Update.{update}
use Rattle.part_window.specs.declared.credits.NoClaim.{NoClaim}
use Rattle.part_window.specs.declared.credits.NoClaim.TheVariants.{Exhausted, NotYet}
use Rattle.part_window.specs.declared.table.TheConstants.{BUFFER_BYTES}
pub use Rattle.part_window.specs.TableState.{counts_of, SlotState, Vacant, Opened, Committed, is_vacant, is_taken}
pub use Rattle.part_window.specs.TableState.{IsOpened}
pub use Rattle.part_window.specs.TableState.{number_of, opened_bytes, message_number, message_of, refill, with_written}
pub use Rattle.part_window.specs.TableState.{as_committed, as_retransmitted, Claim}

-- the slot is taken, committed or not, by the request with this number
abbrev pub IsTakenWith : ℕ → SlotState → Type 0
IsTakenWith wanted Vacant = ⊥
IsTakenWith wanted (Opened number time buffer) = number ≡ wanted
IsTakenWith wanted (Committed number time message) = number ≡ wanted

-- the numbers given to one peer so far, and its slots
pub record PeerState : Type 0 where
  pub given : ℕ
  pub slots : List SlotState

-- the greatest number, and the state of each node as a peer
pub record SlotsState : Type 0 where
  pub last : ℕ
  pub peers : List PeerState

-- a slot of a node, if there is one
abbrev pub slot_at : SlotsState → ℕ → ℕ → Option SlotState
slot_at table to slot = option_and_then (λ peer. slice_get peer.slots slot) (slice_get table.peers to)

-- how many slots there are for a node: 0 where there is no such node
abbrev pub slot_count : SlotsState → ℕ → ℕ
slot_count table to = elim (slice_get table.peers to) [ Some peer ↦ length peer.slots | None ↦ 0 ]

-- the slot of this node is opened
abbrev pub IsOpenedAt : SlotsState → ℕ → ℕ → Type 0
IsOpenedAt table to slot = IsSomeAnd (slot_at table to slot) IsOpened

-- what stands in the buffer of an opened slot of this node
abbrev pub opened_bytes_at : SlotsState → ℕ → ℕ → List ℕ
opened_bytes_at table to slot = elim (slot_at table to slot) [ Some state ↦ opened_bytes state | None ↦ [] ]

-- the message of a slot of this node, if it is committed
abbrev pub committed_message_at : SlotsState → ℕ → ℕ → Option (List ℕ)
committed_message_at table to slot = option_and_then message_of (slot_at table to slot)

-- the number of the message in a slot of this node, if it is committed
abbrev pub committed_number_at : SlotsState → ℕ → ℕ → Option ℕ
committed_number_at table to slot = option_and_then message_number (slot_at table to slot)

-- the slot of this node is taken by the request with this number
abbrev pub IsTakenAt : SlotsState → ℕ → ℕ → ℕ → Type 0
IsTakenAt table to slot number = IsSomeAnd (slot_at table to slot) (IsTakenWith number)

-- one slot of the peer has a new state
abbrev pub with_slot_in : PeerState → ℕ → (SlotState → SlotState) → PeerState
with_slot_in peer slot change = record peer { slots = update peer.slots slot change }

-- one slot of one node is changed
abbrev pub with_slot_changed : SlotsState → ℕ → ℕ → (SlotState → SlotState) → SlotsState
with_slot_changed table to slot change =
    record table { peers = update table.peers to (λ peer. with_slot_in peer slot change) }

-- one slot of one node has a new state
abbrev pub with_slot : SlotsState → ℕ → ℕ → SlotState → SlotsState
with_slot table to slot state =
    record table { peers = update table.peers to (λ peer. record peer { slots = update peer.slots slot (λ _. state) }) }

-- the peer's given numbers reach `number`, and its slot has a new state
abbrev pub with_given_in : PeerState → ℕ → ℕ → SlotState → PeerState
with_given_in peer slot number state = record { given = number; slots = update peer.slots slot (λ _. state) }

-- the peer's numbers are given as far as this one, and its slot has a new state
abbrev pub with_given : SlotsState → ℕ → ℕ → ℕ → SlotState → SlotsState
with_given table to slot number state =
    record table { peers = update table.peers to (λ peer. with_given_in peer slot number state) }

-- the peer's next number is given, and its slot is opened with these bytes in its buffer
abbrev pub with_opened : SlotsState → ℕ → Claim → List ℕ → SlotsState
with_opened table to claim buffer = with_given table to claim.slot claim.number (Opened claim.number claim.time buffer)

-- the peer's next number is given, and its slot has the message
abbrev pub with_request : SlotsState → ℕ → Claim → List ℕ → SlotsState
with_request table to claim message =
    with_given table to claim.slot claim.number (Committed claim.number claim.time message)

-- why a peer's request is refused: its numbers stand at the last one; else no slot is vacant
abbrev pub Refuses : PeerState → ℕ → NoClaim → Type 0
Refuses peer last Exhausted = last ≤ peer.given
Refuses peer last NotYet = (peer.given < last) × (position is_vacant peer.slots ≡ None)

-- a number is left, and this is the lowest vacant slot
pub record CanClaim (peer : PeerState) (last slot : ℕ) : Type 0 where
  pub left : peer.given < last
  pub in_range : slot < length peer.slots
  pub lowest : position is_vacant peer.slots ≡ Some slot

-- the node's numbers are given as far as this claim's, and its slot is opened with it, with some buffer
pub record OpensAt (old : SlotsState) (to : ℕ) (claim : Claim) (new : SlotsState) : Type 0 where
  pub buffer : List ℕ
  pub whole : length buffer ≡ BUFFER_BYTES
  pub opened : new ≡ with_opened old to claim buffer

-- the lowest vacant slot of the peer is opened with the peer's next number, with some buffer, and nothing else changes
pub record Claims (old : SlotsState) (to : ℕ) (claim : Claim) (new : SlotsState) : Type 0 where
  pub lowest : IfSome (slice_get old.peers to)
      (λ peer. CanClaim peer old.last claim.slot × (claim.number ≡ peer.given + 1))
  pub buffer : List ℕ
  pub whole : length buffer ≡ BUFFER_BYTES
  pub opened : new ≡ with_opened old to claim buffer

-- the numbers given to a node so far, if there is such a node
abbrev pub given_at : SlotsState → ℕ → Option ℕ
given_at table to = option_map (λ peer. peer.given) (slice_get table.peers to)

-- how many slots of the node are vacant: 0 where there is no such node
abbrev pub vacant_count : SlotsState → ℕ → ℕ
vacant_count table to = elim (slice_get table.peers to) [ Some peer ↦ count_by is_vacant peer.slots | None ↦ 0 ]

-- the node's numbers are all given
abbrev pub is_exhausted : SlotsState → ℕ → Bool
is_exhausted table to = elim (slice_get table.peers to) [ Some peer ↦ nat_le table.last peer.given | None ↦ true ]

-- how many slots of the peer are taken
abbrev pub taken_count : PeerState → ℕ
taken_count peer = count_by is_taken peer.slots

-- how many slots are taken in the whole table
abbrev pub held_count : SlotsState → ℕ
held_count table = sum_by taken_count table.peers

-- how many slots there are in the whole table
abbrev pub room : SlotsState → ℕ
room table = sum_by (λ peer. length peer.slots) table.peers

-- a peer to which no number was given
abbrev pub new_peer : ℕ → PeerState
new_peer credits = record { given = 0; slots = replicate credits Vacant }

-- no number is given, and every slot is vacant: as many as there are credits for each other node, and none for the node
-- itself
pub record IsNew (credits : List ℕ) (me greatest : ℕ) (table : SlotsState) : Type 0 where
  pub last : table.last ≡ greatest
  pub nodes : length table.peers ≡ length credits
  pub peers : (node count : ℕ) → slice_get credits node ≡ Some count
      → slice_get table.peers node ≡ Some (new_peer (if node == me then 0 else count))
