-- How the value of a table is read off what it keeps.
use Rattle.std.specs.Prelude.{ℕ, ◌≡◌, ◌≤◌, Bool, true, false, not, List, [], ◌∷◌, length, take, map}
use Rattle.std.specs.Prelude.{slice_get, Some, count_by, ◌^◌, if◌then◌else◌}
use lib.Lanes.{mask_l}
use Rattle.base_lists.specs.Cut.{start_of, total_of, part_of}
use Rattle.part_window.specs.TableState.{TableState, SlotState, Vacant, Opened, Committed}
use Rattle.part_window.specs.declared.table.Contents.{Contents}
use Rattle.part_window.specs.declared.table.Contents.TheVariants.{Nothing, Draft, Message}
use Rattle.part_window.specs.declared.table.Peer.{Peer}
use Rattle.part_window.specs.declared.table.TheConstants.{BUFFER_BYTES, MAX_SLOTS}

-- the slot's value, which forgets the bytes of the buffer behind a message
abbrev pub slot_view : Contents → List ℕ → SlotState
slot_view Nothing bytes = Vacant
slot_view (Draft number time) bytes = Opened number time bytes
slot_view (Message number time len) bytes = Committed number time (take len bytes)

-- each slot's value, by its contents and its buffer
abbrev pub views : List Contents → List (List ℕ) → List SlotState
views [] buffers = []
views (first ∷ contents) [] = slot_view first [] ∷ views contents []
views (first ∷ contents) (buffer ∷ buffers) = slot_view first buffer ∷ views contents buffers

-- nothing stands in the slot
abbrev pub is_nothing : Contents → Bool
is_nothing Nothing = true
is_nothing (Draft number time) = false
is_nothing (Message number time len) = false

-- something stands in the slot
abbrev pub is_something : Contents → Bool
is_something contents = not (is_nothing contents)

-- a message ends within the buffer
abbrev pub FitsBuffer : Contents → Type 0
FitsBuffer Nothing = Unit {0}
FitsBuffer (Draft number time) = Unit {0}
FitsBuffer (Message number time len) = len ≤ BUFFER_BYTES

-- how many slots each peer has
abbrev pub peer_counts : List Peer → List ℕ
peer_counts peers = map (λ peer. peer.count) peers

-- the peers' slots follow one another, and are no more than there can be
pub record IsLaid (peers : List Peer) : Type 0 where
  pub small : total_of (peer_counts peers) ≤ MAX_SLOTS
  pub narrow : (node : ℕ) (peer : Peer) → slice_get peers node ≡ Some peer → peer.count ≤ 32
  pub firsts : (node : ℕ) (peer : Peer) → slice_get peers node ≡ Some peer
      → peer.first ≡ start_of (peer_counts peers) node

-- what the peers and the count of taken slots say of the contents
pub record IsCounted (peers : List Peer) (contents : List Contents) (held : ℕ) : Type 0 where
  pub laid : IsLaid peers
  pub whole : total_of (peer_counts peers) ≡ length contents
  pub masks : (node : ℕ) (peer : Peer) → slice_get peers node ≡ Some peer
      → peer.vacant ≡ mask_l (map is_nothing (part_of (peer_counts peers) contents node))
  pub counted : held ≡ count_by is_something contents

-- each slot has a buffer, and its message ends within it
pub record IsBuffered (contents : List Contents) (buffers : List (List ℕ)) : Type 0 where
  pub enough : length buffers ≡ length contents
  pub sizes : (place : ℕ) (buffer : List ℕ) → slice_get buffers place ≡ Some buffer → length buffer ≡ BUFFER_BYTES
  pub fits : (place : ℕ) (kept : Contents) → slice_get contents place ≡ Some kept → FitsBuffer kept

-- the weight of a bit that may be set
abbrev pub bit : Bool → ℕ → ℕ
bit is_set slot = if is_set then 2 ^ slot else 0

-- 1 for true
abbrev pub one : Bool → ℕ
one is_so = if is_so then 1 else 0

-- the value of a table
abbrev pub table_view : List Peer → List Contents → List (List ℕ) → TableState
table_view peers contents buffers = record { counts = peer_counts peers; slots = views contents buffers }
