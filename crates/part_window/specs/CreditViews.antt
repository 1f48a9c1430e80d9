-- How the value of a requester's slots is read off the table under them.
use Rattle.std.specs.Prelude.{ℕ, ◌≡◌, ◌+◌, ◌<◌, List, [], ◌∷◌, length, Option, Some, None, slice_get}
use Rattle.base_lists.specs.Cut.{cut, start_of, count_at, total_of}
use Rattle.part_window.specs.TableState.{TableState}
use Rattle.part_window.specs.SlotsState.{SlotState, Vacant, Opened, Committed, PeerState, SlotsState}
use Rattle.part_window.specs.declared.order.Due.{Due}

-- each peer, by its given numbers and its slots
abbrev pub peers_of : List ℕ → List (List SlotState) → List PeerState
peers_of [] parts = []
peers_of (number ∷ given) [] = []
peers_of (number ∷ given) (slots ∷ parts) = record { given = number; slots = slots } ∷ peers_of given parts

-- the value of a table
abbrev pub credits_view : ℕ → List ℕ → TableState → SlotsState
credits_view last given table = record { last = last; peers = peers_of given (cut table.counts table.slots) }

-- what is listed for a slot: a message with its time and its address, and nothing for another
abbrev pub Matches : List ℕ → ℕ → SlotState → Option (Option Due) → Type 0
Matches counts place Vacant found = found ≡ Some None
Matches counts place (Opened number time buffer) found = found ≡ Some None
Matches counts place (Committed number time message) found =
    (due : Due) × (found ≡ Some (Some due)) × (due.time ≡ time) × (due.slot < count_at counts due.node) ×
    (start_of counts due.node + due.slot ≡ place)

-- each node has its given numbers, and the order lists the messages
pub record IsCredits (given : List ℕ) (table : TableState) (order : List (Option Due)) : Type 0 where
  pub nodes : length given ≡ length table.counts
  pub whole : total_of table.counts ≡ length table.slots
  pub places : length order ≡ length table.slots + 1
  pub matched : (place : ℕ) (state : SlotState) → slice_get table.slots place ≡ Some state
      → Matches table.counts place state (slice_get order place)
