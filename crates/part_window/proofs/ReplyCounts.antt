-- How the number of slots in which a request ran changes, and its bound.
use Rattle.std.proofs.Common.{ℕ, ◌≡◌, ◌+◌, ◌≤◌, Some, None, cond, List, length, sym, ap, ◌∙◌, inl, inr, arith}
use Rattle.std.specs.Prelude.{slice_get, option_and_then}
use Rattle.std.proofs.lemmas.Option.{slice_get_cases}
use Rattle.std.proofs.lemmas.List.Sums.{count_by-le-length}
use Rattle.base_lists.specs.Update.{update}
use Rattle.base_lists.proofs.Update.{sum_by-update, sum_by-below}
use Rattle.part_window.specs.RepliesState.{ReplyState, RepliesState, has_run, run_count, held_count, room, slot_at}
use Rattle.part_window.specs.RepliesState.{with_slot_changed}

-- 1 for a slot in which a request ran, and 0 for another
abbrev pub run : ReplyState → ℕ
run s = cond (has_run s) 1 0

-- requests ran in no more slots than there are
pub held_count-le : (t : RepliesState) → held_count t ≤ room t
held_count-le t = sum_by-below run_count (λ p. length p) t.peers (λ p. count_by-le-length has_run p)

-- one slot is changed
pub held_count-changed : (t : RepliesState) (from k : ℕ) (change : ReplyState → ReplyState) (s : ReplyState)
    → slot_at t from k ≡ Some s → held_count (with_slot_changed t from k change) + run s ≡ held_count t + run (change s)
held_count-changed t from k change s at = elim ((slice_get_cases t.peers from).1) [
  | inl w ↦
      let here : slice_get w.0 k ≡ Some s =
      sym (ap (option_and_then (λ (p : List ReplyState). slice_get p k)) w.2) ∙ at in
      omega (
        arith,
        sum_by-update run_count t.peers from (λ p. update p k change) w.0 w.2,
        sum_by-update run w.0 k change s here,
      )
  | inr w ↦
      let none : slot_at t from k ≡ None = ap (option_and_then (λ (p : List ReplyState). slice_get p k)) w.1 in
      absurd cc
]
