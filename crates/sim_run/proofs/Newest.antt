-- The last violations, from the oldest on, as they are read from the newest back.
use Rattle.std.proofs.Common.{◌≡◌, ℕ, zero, suc, ◌+◌, ◌-◌, ◌<◌, ◌≤◌, List, [], ◌∷◌, length, drop, None, Some, nat_lt}
use Rattle.std.proofs.Common.{refl, sym, ap, ◌∙◌, arith, inl, inr}
use Rattle.std.specs.List.{slice_get}
use Rattle.std.proofs.lemmas.Option.{same_Some}
use Rattle.std.proofs.lemmas.Bool.{cases_Bool}
use Rattle.std.proofs.lemmas.Bool.Decides.{nat_tests}
use Rattle.std.proofs.lemmas.List.{length-drop}
use Rattle.part_handlers.specs.LogState.{from_end, log_of}
use Rattle.part_handlers.specs.declared.rules.Violation.{Violation}

-- what a list has at a place is the first of what it has from there on
drop_at : (ys : List Violation) (p : ℕ) (v : Violation) → slice_get ys p ≡ Some v → drop p ys ≡ v ∷ drop (suc p) ys
drop_at [] p v h = absurd (cc)
drop_at (y ∷ ys) zero v h = ap (λ x. x ∷ ys) (same_Some y v h)
drop_at (y ∷ ys) (suc p) v h = drop_at ys p v h

-- a place that is there has one
there : (ys : List Violation) (p : ℕ) → p < length ys → slice_get ys p ≡ None → ⊥
there [] p low h = absurd (omega (arith, low))
there (y ∷ ys) zero low h = cc
there (y ∷ ys) (suc p) low h = there ys p (omega (arith, low)) h

-- what is left before this turn of 64
abbrev pub left : List Violation → (turn : ℕ) → List Violation
left ys turn = drop (turn - (64 - length ys)) ys

-- before the first turn all are left
pub left_all : (ys : List Violation) → length ys ≤ 64 → left ys 0 ≡ ys
left_all ys few = let none : 0 - (64 - length ys) ≡ 0 = omega arith in ap (λ n. drop n ys) none

-- where none is so far from the end, none was passed
pub left_none : (ys : List Violation) (turn : ℕ) → length ys ≤ 64 → turn < 64 → None ≡ from_end ys (63 - turn)
    → left ys turn ≡ left ys (turn + 1)
left_none ys turn few low h = elim (cases_Bool (nat_lt (63 - turn) (length ys))) [
  | inl t ↦ (let inside : 63 - turn < length ys = grind (arith, nat_tests) in
      absurd (there ys (length ys - (63 - turn) - 1) (omega (arith, inside)) (sym (rw t at h))))
  | inr f ↦ (let outside : length ys ≤ 63 - turn = grind (arith, nat_tests) in
      let same : turn - (64 - length ys) ≡ turn + 1 - (64 - length ys) = omega (arith, outside, low, few) in
      ap (λ n. drop n ys) same)
]

-- one that is so far from the end is the first that is left
pub left_some : (ys : List Violation) (turn : ℕ) (v : Violation) → length ys ≤ 64 → turn < 64
    → Some v ≡ from_end ys (63 - turn) → left ys turn ≡ v ∷ left ys (turn + 1)
left_some ys turn v few low h = elim (cases_Bool (nat_lt (63 - turn) (length ys))) [
  | inl t ↦ (let inside : 63 - turn < length ys = grind (arith, nat_tests) in
      let here : length ys - (63 - turn) - 1 ≡ turn - (64 - length ys) = omega (arith, inside, few, low) in
      let next : suc (turn - (64 - length ys)) ≡ turn + 1 - (64 - length ys) = omega (arith, inside, few, low) in
      drop_at ys (turn - (64 - length ys)) v (sym (ap (slice_get ys) here) ∙ sym (rw t at h))
      ∙ ap (λ n. v ∷ drop n ys) next)
  | inr f ↦ (let q = rw f at h in absurd (cc))
]

-- after the last turn none is left
pub left_over : (ys : List Violation) (turn : ℕ) → length ys ≤ 64 → 64 ≤ turn → left ys turn ≡ []
left_over ys turn few high = go ys (turn - (64 - length ys)) (omega (arith, few, high))
  where
    go : (zs : List Violation) (n : ℕ) → length zs ≤ n → drop n zs ≡ []
    go [] zero h = refl
    go [] (suc n) h = refl
    go (z ∷ zs) zero h = absurd (omega (arith, h))
    go (z ∷ zs) (suc n) h = go zs n (omega (arith, h))

-- a log keeps at most 64
pub few_kept : (xs : List Violation) → length (log_of xs).newest ≤ 64
few_kept xs = let kept = length-drop (length xs - 64) xs in omega (arith, kept)
