-- What no change of a slot changes: how many nodes there are and how many slots each has.
use Rattle.std.proofs.Common.{ℕ, ◌≡◌, Option, Some, None, List, length, refl, sym, ap, ◌∙◌, inl, inr}
use Rattle.std.specs.Prelude.{slice_get}
use Rattle.std.specs.Option.{option_map}
use Rattle.std.proofs.lemmas.Bool.Decides.{eqb_tells}
use Rattle.base_lists.specs.Update.{update}
use Rattle.base_lists.proofs.Update.{slice_get-update, slice_get-update_other, length-update, sum_by-update_same}
use Rattle.part_window.specs.RepliesState.{ReplyState, RepliesState, slot_count, room, with_slot_changed}

-- the number of nodes
pub nodes-changed : (t : RepliesState) (from k : ℕ) (change : ReplyState → ReplyState)
    → length (with_slot_changed t from k change).peers ≡ length t.peers
nodes-changed t from k change = length-update t.peers from (λ p. update p k change)

-- the number of slots, where a node's state is looked up
abbrev count_in : Option (List ReplyState) → ℕ
count_in o = elim o [ Some p ↦ length p | None ↦ 0 ]

-- the number of slots of each node
pub slot_count-changed : (t : RepliesState) (from k : ℕ) (change : ReplyState → ReplyState) (node : ℕ)
    → slot_count (with_slot_changed t from k change) node ≡ slot_count t node
slot_count-changed t from k change node = elim (eqb_tells node from) [
  | inl w ↦
      ap (λ (j : ℕ). count_in (slice_get (with_slot_changed t from k change).peers j)) w.1
      ∙ (ap count_in (slice_get-update t.peers from (λ p. update p k change))
      ∙ (in_peer (slice_get t.peers from) ∙ sym (ap (λ (j : ℕ). count_in (slice_get t.peers j)) w.1)))
  | inr w ↦ ap count_in (slice_get-update_other t.peers from (λ p. update p k change) node w.1)
] where
  in_peer : (o : Option (List ReplyState)) → count_in
      (option_map {T = List ReplyState} {U = List ReplyState} (λ p. update p k change) o) ≡ count_in o
  in_peer None = refl
  in_peer (Some p) = length-update p k change

-- the number of slots in the whole table
pub room-changed : (t : RepliesState) (from k : ℕ) (change : ReplyState → ReplyState)
    → room (with_slot_changed t from k change) ≡ room t
room-changed t from k change =
    sum_by-update_same (λ (p : List ReplyState). length p) t.peers from (λ p. update p k change)
    (λ p. length-update p k change)
