-- How the number of taken slots changes, and its bound.
use Rattle.std.proofs.Common.{ℕ, ◌≡◌, ◌+◌, ◌≤◌, Some, None, cond, length, sym, ap, ◌∙◌, inl, inr, arith}
use Rattle.std.specs.Prelude.{slice_get, option_and_then}
use Rattle.std.proofs.lemmas.Option.{slice_get_cases}
use Rattle.std.proofs.lemmas.List.Sums.{count_by-le-length}
use Rattle.base_lists.proofs.Update.{sum_by-update, sum_by-below}
use Rattle.part_window.specs.SlotsState.{PeerState, SlotState, SlotsState, is_taken, taken_count, held_count, room}
use Rattle.part_window.specs.SlotsState.{slot_at}
use Rattle.part_window.specs.SlotsState.{with_slot_changed, with_slot_in, with_given, with_given_in}

-- 1 for a taken slot, 0 for a vacant one
abbrev pub taken : SlotState → ℕ
taken s = cond (is_taken s) 1 0

-- no more slots are taken than there are
pub held_count-le : (t : SlotsState) → held_count t ≤ room t
held_count-le t = sum_by-below taken_count (λ p. length p.slots) t.peers (λ p. count_by-le-length is_taken p.slots)

-- one slot is changed
pub held_count-changed : (t : SlotsState) (to k : ℕ) (change : SlotState → SlotState) (s : SlotState)
    → slot_at t to k ≡ Some s → held_count (with_slot_changed t to k change) + taken s ≡ held_count t + taken (change s)
held_count-changed t to k change s at = elim ((slice_get_cases t.peers to).1) [
  | inl w ↦
      let here : slice_get w.0.slots k ≡ Some s =
      sym (ap (option_and_then (λ (p : PeerState). slice_get p.slots k)) w.2) ∙ at in
      omega (
        arith,
        sum_by-update taken_count t.peers to (λ p. with_slot_in p k change) w.0 w.2,
        sum_by-update taken w.0.slots k change s here,
      )
  | inr w ↦
      let none : slot_at t to k ≡ None = ap (option_and_then (λ (p : PeerState). slice_get p.slots k)) w.1 in absurd cc
]

-- a number is given with one slot
pub held_count-given : (t : SlotsState) (to k number : ℕ) (new s : SlotState) → slot_at t to k ≡ Some s
    → held_count (with_given t to k number new) + taken s ≡ held_count t + taken new
held_count-given t to k number new s at = elim ((slice_get_cases t.peers to).1) [
  | inl w ↦
      let here : slice_get w.0.slots k ≡ Some s =
      sym (ap (option_and_then (λ (p : PeerState). slice_get p.slots k)) w.2) ∙ at in
      omega (
        arith,
        sum_by-update taken_count t.peers to (λ p. with_given_in p k number new) w.0 w.2,
        sum_by-update taken w.0.slots k (λ _. new) s here,
      )
  | inr w ↦
      let none : slot_at t to k ≡ None = ap (option_and_then (λ (p : PeerState). slice_get p.slots k)) w.1 in absurd cc
]
