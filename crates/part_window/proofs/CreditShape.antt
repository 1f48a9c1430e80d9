-- What no change of a slot changes: how many nodes there are and how many slots each has. And the numbers given.
use Rattle.std.proofs.Common.{ℕ, ◌≡◌, ◌≢◌, Option, Some, None, length, refl, sym, ap, ◌∙◌, inl, inr}
use Rattle.std.specs.Prelude.{slice_get}
use Rattle.std.specs.Option.{option_map}
use Rattle.base_lists.proofs.Update.{slice_get-update, slice_get-update_other, length-update, sum_by-update_same}
use Rattle.std.proofs.lemmas.Bool.Decides.{eqb_tells}
use Rattle.part_window.specs.SlotsState.{PeerState, SlotState, SlotsState, slot_count, given_at, room}
use Rattle.part_window.specs.SlotsState.{with_slot_changed}
use Rattle.part_window.specs.SlotsState.{with_slot_in, with_given, with_given_in}

-- the number of nodes
pub nodes-changed : (t : SlotsState) (to k : ℕ) (change : SlotState → SlotState)
    → length (with_slot_changed t to k change).peers ≡ length t.peers
nodes-changed t to k change = length-update t.peers to (λ p. with_slot_in p k change)

pub nodes-given : (t : SlotsState) (to k number : ℕ) (s : SlotState)
    → length (with_given t to k number s).peers ≡ length t.peers
nodes-given t to k number s = length-update t.peers to (λ p. with_given_in p k number s)

-- the number of slots, where a node's state is looked up
abbrev count_in : Option PeerState → ℕ
count_in o = elim o [ Some p ↦ length p.slots | None ↦ 0 ]

-- the number of slots of each node
pub slot_count-changed : (t : SlotsState) (to k : ℕ) (change : SlotState → SlotState) (node : ℕ)
    → slot_count (with_slot_changed t to k change) node ≡ slot_count t node
slot_count-changed t to k change node = elim (eqb_tells node to) [
  | inl w ↦
      ap (λ (j : ℕ). count_in (slice_get (with_slot_changed t to k change).peers j)) w.1
      ∙ (ap count_in (slice_get-update t.peers to (λ p. with_slot_in p k change))
      ∙ (in_peer (slice_get t.peers to) ∙ sym (ap (λ (j : ℕ). count_in (slice_get t.peers j)) w.1)))
  | inr w ↦ ap count_in (slice_get-update_other t.peers to (λ p. with_slot_in p k change) node w.1)
] where
  in_peer : (o : Option PeerState) → count_in
      (option_map {T = PeerState} {U = PeerState} (λ p. with_slot_in p k change) o) ≡ count_in o
  in_peer None = refl
  in_peer (Some p) = length-update p.slots k change

pub slot_count-given : (t : SlotsState) (to k number : ℕ) (s : SlotState) (node : ℕ)
    → slot_count (with_given t to k number s) node ≡ slot_count t node
slot_count-given t to k number s node = elim (eqb_tells node to) [
  | inl w ↦
      ap (λ (j : ℕ). count_in (slice_get (with_given t to k number s).peers j)) w.1
      ∙ (ap count_in (slice_get-update t.peers to (λ p. with_given_in p k number s))
      ∙ (in_peer (slice_get t.peers to) ∙ sym (ap (λ (j : ℕ). count_in (slice_get t.peers j)) w.1)))
  | inr w ↦ ap count_in (slice_get-update_other t.peers to (λ p. with_given_in p k number s) node w.1)
] where
  in_peer : (o : Option PeerState) → count_in
      (option_map {T = PeerState} {U = PeerState} (λ p. with_given_in p k number s) o) ≡ count_in o
  in_peer None = refl
  in_peer (Some p) = length-update p.slots k (λ _. s)

-- the number of slots in the whole table
pub room-changed : (t : SlotsState) (to k : ℕ) (change : SlotState → SlotState)
    → room (with_slot_changed t to k change) ≡ room t
room-changed t to k change =
    sum_by-update_same (λ (p : PeerState). length p.slots) t.peers to (λ p. with_slot_in p k change)
    (λ p. length-update p.slots k change)

pub room-given : (t : SlotsState) (to k number : ℕ) (s : SlotState) → room (with_given t to k number s) ≡ room t
room-given t to k number s =
    sum_by-update_same (λ (p : PeerState). length p.slots) t.peers to (λ p. with_given_in p k number s)
    (λ p. length-update p.slots k (λ _. s))

-- the numbers given to each node
pub given_at-changed : (t : SlotsState) (to k : ℕ) (change : SlotState → SlotState) (node : ℕ)
    → given_at (with_slot_changed t to k change) node ≡ given_at t node
given_at-changed t to k change node = elim (eqb_tells node to) [
  | inl w ↦
      ap (λ (j : ℕ). given_at (with_slot_changed t to k change) j) w.1
      ∙ (ap (option_map (λ (p : PeerState). p.given)) (slice_get-update t.peers to (λ p. with_slot_in p k change))
      ∙ (in_peer (slice_get t.peers to) ∙ sym (ap (λ (j : ℕ). given_at t j) w.1)))
  | inr w ↦
      ap (option_map (λ (p : PeerState). p.given))
      (slice_get-update_other t.peers to (λ p. with_slot_in p k change) node w.1)
] where
  in_peer : (o : Option PeerState) → option_map (λ p. p.given)
      (option_map {T = PeerState} {U = PeerState} (λ p. with_slot_in p k change) o) ≡ option_map (λ p. p.given) o
  in_peer None = refl
  in_peer (Some p) = refl

pub given_at-given : (t : SlotsState) (to k number : ℕ) (s : SlotState)
    → given_at (with_given t to k number s) to ≡ option_map (λ _. number) (given_at t to)
given_at-given t to k number s =
    ap (option_map (λ (p : PeerState). p.given)) (slice_get-update t.peers to (λ p. with_given_in p k number s))
    ∙ in_peer (slice_get t.peers to) where
      in_peer : (o : Option PeerState) → option_map (λ p. p.given)
          (option_map {T = PeerState} {U = PeerState} (λ p. with_given_in p k number s) o) ≡ option_map (λ _. number)
          (option_map {T = PeerState} {U = ℕ} (λ p. p.given) o)
      in_peer None = refl
      in_peer (Some p) = refl

pub given_at-given_node : (t : SlotsState) (to k number : ℕ) (s : SlotState) (node : ℕ) → node ≢ to
    → given_at (with_given t to k number s) node ≡ given_at t node
given_at-given_node t to k number s node other =
    ap (option_map (λ (p : PeerState). p.given))
    (slice_get-update_other t.peers to (λ p. with_given_in p k number s) node other)
