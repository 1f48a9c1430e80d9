-- What a look-up finds after one of a requester's slots changed.
use Rattle.std.proofs.Common.{ℕ, ◌≡◌, ◌≢◌, Option, Some, None, List, refl, sym, ap, ◌∙◌, inl, inr, ◌⊎◌}
use Rattle.std.proofs.lemmas.Bool.Decides.{eqb_tells}
use Rattle.std.specs.Prelude.{slice_get, option_and_then}
use Rattle.std.specs.Option.{option_map}
use Rattle.base_lists.proofs.Update.{slice_get-update, slice_get-update_other}
use Rattle.part_window.specs.SlotsState.{PeerState, SlotState, SlotsState, slot_at, with_slot_changed, with_slot_in}
use Rattle.part_window.specs.SlotsState.{with_given, with_given_in, with_slot, with_request, Claim, Committed}

-- the changed slot
pub slot_at-changed : (t : SlotsState) (to k : ℕ) (change : SlotState → SlotState)
    → slot_at (with_slot_changed t to k change) to k ≡ option_map change (slot_at t to k)
slot_at-changed t to k change =
    ap (option_and_then (λ (p : PeerState). slice_get p.slots k))
    (slice_get-update t.peers to (λ p. with_slot_in p k change)) ∙ in_peer (slice_get t.peers to) where
      in_peer : (o : Option PeerState) → option_and_then (λ p. slice_get p.slots k)
          (option_map {T = PeerState} {U = PeerState} (λ p. with_slot_in p k change) o) ≡ option_map change
          (option_and_then (λ p. slice_get p.slots k) o)
      in_peer None = refl
      in_peer (Some p) = slice_get-update p.slots k change

-- another slot of that node
pub slot_at-changed_slot : (t : SlotsState) (to k : ℕ) (change : SlotState → SlotState) (i : ℕ) → i ≢ k
    → slot_at (with_slot_changed t to k change) to i ≡ slot_at t to i
slot_at-changed_slot t to k change i other =
    ap (option_and_then (λ (p : PeerState). slice_get p.slots i))
    (slice_get-update t.peers to (λ p. with_slot_in p k change)) ∙ in_peer (slice_get t.peers to) where
      in_peer : (o : Option PeerState) → option_and_then (λ p. slice_get p.slots i)
          (option_map {T = PeerState} {U = PeerState} (λ p. with_slot_in p k change) o) ≡ option_and_then
          (λ p. slice_get p.slots i) o
      in_peer None = refl
      in_peer (Some p) = slice_get-update_other p.slots k change i other

-- a slot of another node
pub slot_at-changed_node : (t : SlotsState) (to k : ℕ) (change : SlotState → SlotState) (node i : ℕ) → node ≢ to
    → slot_at (with_slot_changed t to k change) node i ≡ slot_at t node i
slot_at-changed_node t to k change node i other =
    ap (option_and_then (λ (p : PeerState). slice_get p.slots i))
    (slice_get-update_other t.peers to (λ p. with_slot_in p k change) node other)

-- the slot that was given with a number
pub slot_at-given : (t : SlotsState) (to k number : ℕ) (s : SlotState)
    → slot_at (with_given t to k number s) to k ≡ option_map (λ _. s) (slot_at t to k)
slot_at-given t to k number s =
    ap (option_and_then (λ (p : PeerState). slice_get p.slots k))
    (slice_get-update t.peers to (λ p. with_given_in p k number s)) ∙ in_peer (slice_get t.peers to) where
      in_peer : (o : Option PeerState) → option_and_then (λ p. slice_get p.slots k)
          (option_map {T = PeerState} {U = PeerState} (λ p. with_given_in p k number s) o) ≡ option_map (λ _. s)
          (option_and_then (λ p. slice_get p.slots k) o)
      in_peer None = refl
      in_peer (Some p) = slice_get-update p.slots k (λ _. s)

-- another slot of the node to which a number was given
pub slot_at-given_slot : (t : SlotsState) (to k number : ℕ) (s : SlotState) (i : ℕ) → i ≢ k
    → slot_at (with_given t to k number s) to i ≡ slot_at t to i
slot_at-given_slot t to k number s i other =
    ap (option_and_then (λ (p : PeerState). slice_get p.slots i))
    (slice_get-update t.peers to (λ p. with_given_in p k number s)) ∙ in_peer (slice_get t.peers to) where
      in_peer : (o : Option PeerState) → option_and_then (λ p. slice_get p.slots i)
          (option_map {T = PeerState} {U = PeerState} (λ p. with_given_in p k number s) o) ≡ option_and_then
          (λ p. slice_get p.slots i) o
      in_peer None = refl
      in_peer (Some p) = slice_get-update_other p.slots k (λ _. s) i other

-- a slot of another node than the one to which a number was given
pub slot_at-given_node : (t : SlotsState) (to k number : ℕ) (s : SlotState) (node i : ℕ) → node ≢ to
    → slot_at (with_given t to k number s) node i ≡ slot_at t node i
slot_at-given_node t to k number s node i other =
    ap (option_and_then (λ (p : PeerState). slice_get p.slots i))
    (slice_get-update_other t.peers to (λ p. with_given_in p k number s) node other)

-- any slot: it is the changed one, or it is as it was
pub slot_at-changed_cases : (t : SlotsState) (to k : ℕ) (change : SlotState → SlotState) (node i : ℕ)
    → ((node ≡ to) × (i ≡ k)) ⊎ (slot_at (with_slot_changed t to k change) node i ≡ slot_at t node i)
slot_at-changed_cases t to k change node i = elim (eqb_tells node to) [
  | inr other ↦ inr (slot_at-changed_node t to k change node i other.1)
  | inl here ↦ elim (eqb_tells i k) [
    | inl same ↦ inl (here.1, same.1)
    | inr other ↦
        inr (ap (λ (j : ℕ). slot_at (with_slot_changed t to k change) j i) here.1
        ∙ (slot_at-changed_slot t to k change i other.1 ∙ sym (ap (λ (j : ℕ). slot_at t j i) here.1)))
  ]
]

-- any slot: it is the one given with a number, or it is as it was
pub slot_at-given_cases : (t : SlotsState) (to k number : ℕ) (s : SlotState) (node i : ℕ)
    → ((node ≡ to) × (i ≡ k)) ⊎ (slot_at (with_given t to k number s) node i ≡ slot_at t node i)
slot_at-given_cases t to k number s node i = elim (eqb_tells node to) [
  | inr other ↦ inr (slot_at-given_node t to k number s node i other.1)
  | inl here ↦ elim (eqb_tells i k) [
    | inl same ↦ inl (here.1, same.1)
    | inr other ↦
        inr (ap (λ (j : ℕ). slot_at (with_given t to k number s) j i) here.1
        ∙ (slot_at-given_slot t to k number s i other.1 ∙ sym (ap (λ (j : ℕ). slot_at t j i) here.1)))
  ]
]

-- the slot of a request, where there was such a slot
pub slot_at-request : (t : SlotsState) (to : ℕ) (claim : Claim) (message : List ℕ) (s : SlotState)
    → slot_at t to claim.slot ≡ Some s
    → slot_at (with_request t to claim message) to claim.slot ≡ Some (Committed claim.number claim.time message)
slot_at-request t to claim message s at =
    slot_at-given t to claim.slot claim.number (Committed claim.number claim.time message)
    ∙ ap (option_map (λ (old : SlotState). Committed claim.number claim.time message)) at

-- another slot than that of a request
pub slot_at-request_slot : (t : SlotsState) (to : ℕ) (claim : Claim) (message : List ℕ) (i : ℕ) → i ≢ claim.slot
    → slot_at (with_request t to claim message) to i ≡ slot_at t to i
slot_at-request_slot t to claim message i other =
    slot_at-given_slot t to claim.slot claim.number (Committed claim.number claim.time message) i other

-- a slot of another node than that of a request
pub slot_at-request_node : (t : SlotsState) (to : ℕ) (claim : Claim) (message : List ℕ) (node i : ℕ) → node ≢ to
    → slot_at (with_request t to claim message) node i ≡ slot_at t node i
slot_at-request_node t to claim message node i other =
    slot_at-given_node t to claim.slot claim.number (Committed claim.number claim.time message) node i other

-- the slot that got a state, where there was such a slot
pub slot_at-slot : (t : SlotsState) (to k : ℕ) (new s : SlotState) → slot_at t to k ≡ Some s
    → slot_at (with_slot t to k new) to k ≡ Some new
slot_at-slot t to k new s at = slot_at-changed t to k (λ _. new) ∙ ap (option_map (λ (old : SlotState). new)) at

-- another slot than the one that got a state
pub slot_at-slot_slot : (t : SlotsState) (to k : ℕ) (new : SlotState) (i : ℕ) → i ≢ k
    → slot_at (with_slot t to k new) to i ≡ slot_at t to i
slot_at-slot_slot t to k new i other = slot_at-changed_slot t to k (λ _. new) i other

-- a slot of another node than the one whose slot got a state
pub slot_at-slot_node : (t : SlotsState) (to k : ℕ) (new : SlotState) (node i : ℕ) → node ≢ to
    → slot_at (with_slot t to k new) node i ≡ slot_at t node i
slot_at-slot_node t to k new node i other = slot_at-changed_node t to k (λ _. new) node i other
