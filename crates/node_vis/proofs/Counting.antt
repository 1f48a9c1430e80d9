-- How many index vectors levels have.
use Rattle.std.proofs.Common.{◌≡◌, inl, inr, ℕ, zero, suc, ◌+◌, ◌*◌, ◌<◌, ◌≤◌, true, false, true≢false, List, []}
use Rattle.std.proofs.Common.{◌∷◌, ◌++◌, length, drop, get_or, refl, sym, ap, ap₂, ◌∙◌, arith}
use Rattle.node_vis.proofs.Walking.{drop_one}
use Rattle.std.specs.List.{list_any}
use Rattle.std.proofs.Math.Nat.{zero-mul, mul-zero, mul_comm, mul_assoc, le-mul_of_pos_right}
use Rattle.std.proofs.lemmas.Bool.{cases_Bool, eqb-true, eqb-false}
use Rattle.node_vis.specs.declared.shapes.Level.{Level}
use Rattle.node_vis.specs.Pairs.{Pair, joined_lists, level_pairs, vectors}
use Rattle.node_vis.specs.Runs.{AreFew, is_none}

le-mul_of_pos_left : (a b : ℕ) → 0 < a → b ≤ a * b
le-mul_of_pos_left a b positive =
    let more = le-mul_of_pos_right {m = a} b positive in
    let turn = mul_comm b a in
    omega (arith, more, turn)

some_product : (a b : ℕ) → 0 < a → 0 < b → 0 < a * b
some_product a b first second = let more = le-mul_of_pos_right {m = b} a second in omega (arith, more)

factors : (a b : ℕ) → 0 < a * b → (0 < a) × (0 < b)
factors zero b some = absurd (omega (arith, some, zero-mul b))
factors (suc a) zero some = absurd (omega (arith, some, mul-zero (suc a)))
factors (suc a) (suc b) some = (omega arith, omega arith)

-- a level without a value: there is no index vector
pub no_vectors : (levels : List Level) → list_any is_none levels ≡ true → vectors levels ≡ 0
no_vectors [] any = absurd (true≢false (sym any))
no_vectors (level ∷ deeper) any = elim (cases_Bool (is_none level)) [
  | inl here ↦ ap (λ n. n * vectors deeper) (eqb-true level.count 0 here) ∙ zero-mul (vectors deeper)
  | inr other ↦ ap (λ n. level.count * n) (no_vectors deeper (rw other at any)) ∙ mul-zero level.count
]

-- no such level: there are some
pub some_vectors : (levels : List Level) → list_any is_none levels ≡ false → 0 < vectors levels
some_vectors [] none = omega arith
some_vectors (level ∷ deeper) none = elim (cases_Bool (is_none level)) [
  | inl here ↦ absurd (true≢false (rw here at none))
  | inr other ↦ (
      let later = some_vectors deeper (rw other at none) in
      let isnt = eqb-false level.count 0 other in
      let some : 0 < level.count = omega (arith, isnt) in
      some_product level.count (vectors deeper) some later)
]

none_later : (level : Level) (deeper : List Level) → list_any is_none (level ∷ deeper) ≡ false
    → list_any is_none deeper ≡ false
none_later level deeper none = elim (cases_Bool (is_none level)) [
  | inl here ↦ absurd (true≢false (rw here at none))
  | inr other ↦ rw other at none
]

-- few vectors, and some: each level has few values
pub few_levels : (levels : List Level) → 0 < vectors levels → vectors levels ≤ 65536 → AreFew levels
few_levels [] some few = tt
few_levels (level ∷ deeper) some few =
    let parts = factors level.count (vectors deeper) some in
    let more = le-mul_of_pos_right {m = vectors deeper} level.count parts.1 in
    let less = le-mul_of_pos_left level.count (vectors deeper) parts.0 in
    (omega (arith, more, few), few_levels deeper parts.1 (omega (arith, less, few)))

-- as many vectors so far, and those of the levels from this place on: more than 65,536 where the count at the place is
pub many_here : (levels : List Level) (place so_far : ℕ) (none : Level) → place < length levels
    → so_far * vectors (drop place levels) ≡ vectors levels → list_any is_none levels ≡ false
    → 65536 < (get_or levels place none).count → 65536 < vectors levels
many_here levels place so_far none within are some many =
    let count = (get_or levels place none).count in
    let rest = vectors (drop (place + 1) levels) in
    let split : so_far * (count * rest) ≡ vectors levels =
    ap (λ ls. so_far * vectors ls) (sym (drop_one levels place none within)) ∙ are in
    let positive = some_vectors levels some in
    let parts = factors so_far (count * rest) (omega (arith, split, positive)) in
    let later = factors count rest parts.1 in
    let more = le-mul_of_pos_right {m = rest} count later.1 in
    let most = le-mul_of_pos_left so_far (count * rest) parts.0 in
    omega (arith, many, more, most, split)

-- or where the product with it is
pub many_then : (levels : List Level) (place so_far : ℕ) (none : Level) → place < length levels
    → so_far * vectors (drop place levels) ≡ vectors levels → list_any is_none levels ≡ false
    → 65536 < so_far * (get_or levels place none).count → 65536 < vectors levels
many_then levels place so_far none within are some many =
    let count = (get_or levels place none).count in
    let rest = vectors (drop (place + 1) levels) in
    let split : so_far * count * rest ≡ vectors levels =
    mul_assoc so_far count rest ∙ ap (λ ls. so_far * vectors ls) (sym (drop_one levels place none within)) ∙ are in
    let positive = some_vectors levels some in
    let parts = factors (so_far * count) rest (omega (arith, split, positive)) in
    let more = le-mul_of_pos_right {m = rest} (so_far * count) parts.1 in
    omega (arith, many, more, split)

-- ---- no pairs

no_joined : (list : ℕ → List Pair) (many : ℕ) → ((index : ℕ) → list index ≡ []) → joined_lists list many ≡ []
no_joined list zero none = refl
no_joined list (suc many) none = ap₂ (λ a b. a ++ b) (no_joined list many none) (none many)

-- the pairs of one index of the first level
abbrev pub at_index : Level → List Level → (remote local len index : ℕ) → List Pair
at_index level deeper remote local len index =
    level_pairs deeper (remote + index * level.remote) (local + index * level.local) len

-- no index vector: no pair
pub no_pairs : (levels : List Level) (remote local len : ℕ) → vectors levels ≡ 0
    → level_pairs levels remote local len ≡ []
no_pairs [] remote local len none = absurd (omega (arith, none))
no_pairs (level ∷ deeper) remote local len none =
    by_rest (vectors deeper) refl (λ index is.
    no_pairs deeper (remote + index * level.remote) (local + index * level.local) len is)
  where
    by_count : (count rest : ℕ) → level.count ≡ count → vectors deeper ≡ suc rest
        → joined_lists (at_index level deeper remote local len) level.count ≡ []
    by_count zero rest no_count some = ap (joined_lists (at_index level deeper remote local len)) no_count
    by_count (suc count) rest some_count some =
        let all = some_product level.count (vectors deeper) (omega (arith, some_count)) (omega (arith, some)) in
        absurd (omega (arith, all, none))

    by_rest : (rest : ℕ) → vectors deeper ≡ rest → ((index : ℕ) → vectors deeper ≡ 0 → at_index level deeper remote local len index ≡ [])
        → joined_lists (at_index level deeper remote local len) level.count ≡ []
    by_rest zero is later = no_joined (at_index level deeper remote local len) level.count (λ index. later index is)
    by_rest (suc rest) is later = by_count level.count rest refl is
