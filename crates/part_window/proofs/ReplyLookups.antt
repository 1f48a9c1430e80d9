-- What a look-up finds after one of the kept replies changed.
use Rattle.std.proofs.Common.{ℕ, ◌≡◌, ◌≢◌, Option, Some, None, List, refl, sym, ap, ◌∙◌, inl, inr, ◌⊎◌}
use Rattle.std.proofs.lemmas.Bool.Decides.{eqb_tells}
use Rattle.std.specs.Prelude.{slice_get, option_and_then}
use Rattle.std.specs.Option.{option_map}
use Rattle.base_lists.specs.Update.{update}
use Rattle.base_lists.proofs.Update.{slice_get-update, slice_get-update_other}
use Rattle.part_window.specs.RepliesState.{ReplyState, RepliesState, slot_at, with_slot_changed, with_reply, Kept}

-- the changed slot
pub slot_at-changed : (t : RepliesState) (from k : ℕ) (change : ReplyState → ReplyState)
    → slot_at (with_slot_changed t from k change) from k ≡ option_map change (slot_at t from k)
slot_at-changed t from k change =
    ap (option_and_then (λ (p : List ReplyState). slice_get p k))
    (slice_get-update t.peers from (λ p. update p k change)) ∙ in_peer (slice_get t.peers from) where
      in_peer : (o : Option (List ReplyState)) → option_and_then (λ p. slice_get p k)
          (option_map {T = List ReplyState} {U = List ReplyState} (λ p. update p k change) o) ≡ option_map change
          (option_and_then (λ p. slice_get p k) o)
      in_peer None = refl
      in_peer (Some p) = slice_get-update p k change

-- another slot of that node
pub slot_at-changed_slot : (t : RepliesState) (from k : ℕ) (change : ReplyState → ReplyState) (i : ℕ) → i ≢ k
    → slot_at (with_slot_changed t from k change) from i ≡ slot_at t from i
slot_at-changed_slot t from k change i other =
    ap (option_and_then (λ (p : List ReplyState). slice_get p i))
    (slice_get-update t.peers from (λ p. update p k change)) ∙ in_peer (slice_get t.peers from) where
      in_peer : (o : Option (List ReplyState)) → option_and_then (λ p. slice_get p i)
          (option_map {T = List ReplyState} {U = List ReplyState} (λ p. update p k change) o) ≡ option_and_then
          (λ p. slice_get p i) o
      in_peer None = refl
      in_peer (Some p) = slice_get-update_other p k change i other

-- a slot of another node
pub slot_at-changed_node : (t : RepliesState) (from k : ℕ) (change : ReplyState → ReplyState) (node i : ℕ) → node ≢ from
    → slot_at (with_slot_changed t from k change) node i ≡ slot_at t node i
slot_at-changed_node t from k change node i other =
    ap (option_and_then (λ (p : List ReplyState). slice_get p i))
    (slice_get-update_other t.peers from (λ p. update p k change) node other)

-- any slot: it is the changed one, or it is as it was
pub slot_at-changed_cases : (t : RepliesState) (from k : ℕ) (change : ReplyState → ReplyState) (node i : ℕ)
    → ((node ≡ from) × (i ≡ k)) ⊎ (slot_at (with_slot_changed t from k change) node i ≡ slot_at t node i)
slot_at-changed_cases t from k change node i = elim (eqb_tells node from) [
  | inr other ↦ inr (slot_at-changed_node t from k change node i other.1)
  | inl here ↦ elim (eqb_tells i k) [
    | inl same ↦ inl (here.1, same.1)
    | inr other ↦
        inr (ap (λ (j : ℕ). slot_at (with_slot_changed t from k change) j i) here.1
        ∙ (slot_at-changed_slot t from k change i other.1 ∙ sym (ap (λ (j : ℕ). slot_at t j i) here.1)))
  ]
]

-- the slot of a reply, where there was such a slot
pub slot_at-reply : (t : RepliesState) (from slot number : ℕ) (message : List ℕ) (s : ReplyState)
    → slot_at t from slot ≡ Some s
    → slot_at (with_reply t from slot number message) from slot ≡ Some (Kept number message)
slot_at-reply t from slot number message s at =
    slot_at-changed t from slot (λ _. Kept number message)
    ∙ ap (option_map (λ (old : ReplyState). Kept number message)) at

-- another slot than that of a reply
pub slot_at-reply_slot : (t : RepliesState) (from slot number : ℕ) (message : List ℕ) (i : ℕ) → i ≢ slot
    → slot_at (with_reply t from slot number message) from i ≡ slot_at t from i
slot_at-reply_slot t from slot number message i other =
    slot_at-changed_slot t from slot (λ _. Kept number message) i other

-- a slot of another node than that of a reply
pub slot_at-reply_node : (t : RepliesState) (from slot number : ℕ) (message : List ℕ) (node i : ℕ) → node ≢ from
    → slot_at (with_reply t from slot number message) node i ≡ slot_at t node i
slot_at-reply_node t from slot number message node i other =
    slot_at-changed_node t from slot (λ _. Kept number message) node i other
