-- Pieces that ascend where they are written, and those that are sorted so.
use Rattle.std.proofs.Common.{◌≡◌, inl, inr, ℕ, suc, ◌+◌, ◌≤◌, Bool, true, false, true≢false, List, []}
use Rattle.std.proofs.Common.{◌∷◌, refl, sym, ap₂, ◌∙◌, arith}
use Rattle.std.specs.Prelude.{nat_le, nat_lt, ◌&&◌, ◌||◌, map, not}
use Rattle.std.specs.List.{list_any}
use Rattle.std.specs.List.Sorted.{IsNonDecreasingBy, IsPermutation}
use Rattle.std.proofs.lemmas.Bool.{and_parts, cases_Bool, false_from_ne_true, leb-false, leb-true, le-leb, lt-ltb, ltb-true}
use Rattle.std.proofs.lemmas.Bool.{or_left, or_right}
use Rattle.std.proofs.lemmas.List.Sorted.{IsPermutation-map}
use Rattle.node_vis.specs.declared.shapes.Way.{Way}
use Rattle.node_vis.specs.declared.shapes.Piece.{Piece}
use Rattle.node_vis.specs.declared.runs.Run.{Run}
use Rattle.node_vis.specs.Pieces.{AreFilled}
use Rattle.node_vis.specs.Runs.{ascend_from, meet, piece_in, some_meet, written_at}
use Rattle.node_vis.proofs.Covering.{filled_moved, same_meet}

neither : (a b : Bool) → a ≡ false → b ≡ false → (a || b) ≡ false
neither a b one other = ap₂ (λ x y. x || y) one other

-- pieces that ascend from the end of one on don't meet it
clear_of : (way : Way) (first : Piece) (end : ℕ) (pieces : List Piece) → written_at way first + first.len ≤ end
    → ascend_from way end pieces ≡ true → list_any (meet way first) pieces ≡ false
clear_of way first end [] behind ascends = refl
clear_of way first end (piece ∷ pieces) behind ascends =
    let parts = and_parts (nat_le end (written_at way piece))
    (ascend_from way (written_at way piece + piece.len) pieces) ascends in
    let low = leb-true end (written_at way piece) parts.0 in
    neither (meet way first piece) (list_any (meet way first) pieces)
    (false_from_ne_true (meet way first piece) (λ meets.
    let high = ltb-true (written_at way piece) (written_at way first + first.len)
    (and_parts (nat_lt (written_at way first) (written_at way piece + piece.len))
    (nat_lt (written_at way piece) (written_at way first + first.len)) meets).1 in
    omega (arith, high, behind, low)))
    (clear_of way first (written_at way piece + piece.len) pieces (omega (arith, behind, low)) parts.1)

-- so no two of them meet
pub ascends_clear : (way : Way) (end : ℕ) (pieces : List Piece) → ascend_from way end pieces ≡ true
    → some_meet way pieces ≡ false
ascends_clear way end [] ascends = refl
ascends_clear way end (piece ∷ pieces) ascends =
    let parts = and_parts (nat_le end (written_at way piece))
    (ascend_from way (written_at way piece + piece.len) pieces) ascends in
    neither (list_any (meet way piece) pieces) (some_meet way pieces)
    (clear_of way piece (written_at way piece + piece.len) pieces (omega arith) parts.1)
    (ascends_clear way (written_at way piece + piece.len) pieces parts.1)

not_both : (a b : Bool) → (a && b) ≡ false → a ≡ true → b ≡ false
not_both true b is one = is
not_both false b is one = absurd (true≢false (sym one))

sorted_tail : (n : Run → ℕ) (first : Run) (runs : List Run) → IsNonDecreasingBy n (first ∷ runs)
    → IsNonDecreasingBy n runs
sorted_tail n first runs sorted i j d less within = sorted (suc i) (suc j) d (omega (arith, less)) (omega (arith, within))

-- where runs are sorted, and don't ascend behind the first of them, some two meet
meets_behind : (way : Way) (first : Run) (runs : List Run) → AreFilled (map piece_in (first ∷ runs))
    → IsNonDecreasingBy (λ (run : Run). written_at way (piece_in run)) (first ∷ runs)
    → ascend_from way (written_at way (piece_in first) + first.len) (map piece_in runs) ≡ false
    → some_meet way (map piece_in (first ∷ runs)) ≡ true
meets_behind way first [] filled sorted isnt = absurd (true≢false isnt)
meets_behind way first (run ∷ runs) filled sorted isnt =
    let end = written_at way (piece_in first) + first.len in
    elim (cases_Bool (nat_le end (written_at way (piece_in run)))) [
      | inl clear ↦
          or_right (list_any (meet way (piece_in first)) (map piece_in (run ∷ runs)))
          (some_meet way (map piece_in (run ∷ runs)))
          (meets_behind way run runs filled.1
          (sorted_tail (λ (run : Run). written_at way (piece_in run)) first (run ∷ runs) sorted)
          (not_both (nat_le end (written_at way (piece_in run)))
          (ascend_from way (written_at way (piece_in run) + run.len) (map piece_in runs)) isnt clear))
      | inr under ↦ (
          let high = leb-false end (written_at way (piece_in run)) under in
          let low = sorted 0 1 first (omega arith) (omega arith) in
          let some = filled.1.0 in
          or_left (list_any (meet way (piece_in first)) (map piece_in (run ∷ runs)))
          (some_meet way (map piece_in (run ∷ runs)))
          (or_left (meet way (piece_in first) (piece_in run)) (list_any (meet way (piece_in first)) (map piece_in runs))
          (ap₂ (λ a b. a && b)
          (lt-ltb (written_at way (piece_in first)) (written_at way (piece_in run) + run.len) (omega (arith, low, some)))
          (lt-ltb (written_at way (piece_in run)) end high))))
    ]

-- so sorted runs meet exactly where they don't ascend
pub sorted_meet : (way : Way) (runs : List Run) → AreFilled (map piece_in runs)
    → IsNonDecreasingBy (λ (run : Run). written_at way (piece_in run)) runs
    → ascend_from way 0 (map piece_in runs) ≡ false → some_meet way (map piece_in runs) ≡ true
sorted_meet way [] filled sorted isnt = absurd (true≢false isnt)
sorted_meet way (first ∷ runs) filled sorted isnt =
    meets_behind way first runs filled sorted
    (not_both (nat_le 0 (written_at way (piece_in first)))
    (ascend_from way (written_at way (piece_in first) + first.len) (map piece_in runs)) isnt
    (le-leb 0 (written_at way (piece_in first)) (omega arith)))

-- ---- by the sort of the code

-- a sorted copy of runs meets where the runs do
pub sorted_says : (way : Way) (runs sorted : List Run) (test : Bool) → AreFilled (map piece_in runs)
    → IsPermutation runs sorted → IsNonDecreasingBy (λ (run : Run). written_at way (piece_in run)) sorted
    → test ≡ ascend_from way 0 (map piece_in sorted) → not test ≡ some_meet way (map piece_in runs)
sorted_says way runs sorted true filled moved rises is =
    sym (same_meet way (map piece_in runs) (map piece_in sorted) filled (IsPermutation-map piece_in runs sorted moved)
    ∙ ascends_clear way 0 (map piece_in sorted) (sym is))
sorted_says way runs sorted false filled moved rises is =
    let there = IsPermutation-map piece_in runs sorted moved in
    sym (same_meet way (map piece_in runs) (map piece_in sorted) filled there
    ∙ sorted_meet way sorted (filled_moved (map piece_in runs) (map piece_in sorted) there filled) rises (sym is))
