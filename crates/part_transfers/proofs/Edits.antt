-- What stands in a list where an element was inserted, and where one was removed.
use Rattle.std.proofs.Common.{◌≡◌, ◌≢◌, ◌⊎◌, inl, inr, ℕ, zero, suc, ◌<◌, ◌≤◌, List, [], ◌∷◌, Some, length, refl, ap}
use Rattle.std.proofs.Common.{arith}
use Rattle.std.specs.List.{slice_get, insert, remove}
use Rattle.std.proofs.lemmas.Option.{same_Some}

-- what stands there stood there, or one place before, or is what was inserted
pub inserted_was : {X : Type 0} (xs : List X) (index : ℕ) (new : X) (at : ℕ) (x : X) → index ≤ length xs
    → slice_get (insert xs index new) at ≡ Some x
    → ((at < index) × (slice_get xs at ≡ Some x)) ⊎ (((at ≡ index) × (new ≡ x))
    ⊎ ((before : ℕ) × (at ≡ suc before) × (index ≤ before) × (slice_get xs before ≡ Some x)))
inserted_was xs zero new zero x within is = inr (inl (refl, same_Some new x is))
inserted_was xs zero new (suc at) x within is = inr (inr (at, refl, omega arith, is))
inserted_was [] (suc index) new at x within is = absurd (omega (arith, within))
inserted_was (first ∷ xs) (suc index) new zero x within is = inl (omega arith, is)
inserted_was (first ∷ xs) (suc index) new (suc at) x within is =
    elim (inserted_was xs index new at x (omega (arith, within)) is) [
      | inl it ↦ inl (omega (arith, it.0), it.1)
      | inr later ↦ elim later [
        | inl it ↦ inr (inl (omega (arith, it.0), it.1))
        | inr it ↦ inr (inr (suc it.0, omega (arith, it.1), omega (arith, it.2), it.3))
      ]
    ]

pub inserted_here : {X : Type 0} (xs : List X) (index : ℕ) (new : X) → index ≤ length xs
    → slice_get (insert xs index new) index ≡ Some new
inserted_here xs zero new within = refl
inserted_here [] (suc index) new within = absurd (omega (arith, within))
inserted_here (first ∷ xs) (suc index) new within = inserted_here xs index new (omega (arith, within))

-- what stood somewhere stands somewhere
pub inserted_kept : {X : Type 0} (xs : List X) (index : ℕ) (new : X) (at : ℕ) (x : X) → index ≤ length xs
    → slice_get xs at ≡ Some x
    → (now : ℕ) × (slice_get (insert xs index new) now ≡ Some x)
inserted_kept xs zero new at x within is = (suc at, is)
inserted_kept [] (suc index) new at x within is = absurd (omega (arith, within))
inserted_kept (first ∷ xs) (suc index) new zero x within is = (0, is)
inserted_kept (first ∷ xs) (suc index) new (suc at) x within is =
    let later = inserted_kept xs index new at x (omega (arith, within)) is in (suc later.0, later.1)

-- what stands there stood there, or one place behind
pub removed_was : {X : Type 0} (xs : List X) (index at : ℕ) (x : X) → slice_get (remove xs index) at ≡ Some x
    → ((at < index) × (slice_get xs at ≡ Some x)) ⊎ ((index ≤ at) × (slice_get xs (suc at) ≡ Some x))
removed_was [] zero at x is = absurd (cc)
removed_was [] (suc index) at x is = absurd (cc)
removed_was (first ∷ xs) zero at x is = inr (omega arith, is)
removed_was (first ∷ xs) (suc index) zero x is = inl (omega arith, is)
removed_was (first ∷ xs) (suc index) (suc at) x is = elim (removed_was xs index at x is) [
  | inl it ↦ inl (omega (arith, it.0), it.1)
  | inr it ↦ inr (omega (arith, it.0), it.1)
]

-- what stood somewhere else stands somewhere
pub removed_kept : {X : Type 0} (xs : List X) (index at : ℕ) (x : X) → at ≢ index → slice_get xs at ≡ Some x
    → (now : ℕ) × (slice_get (remove xs index) now ≡ Some x)
removed_kept [] index at x apart is = absurd (cc)
removed_kept (first ∷ xs) zero zero x apart is = absurd (apart refl)
removed_kept (first ∷ xs) zero (suc at) x apart is = (at, is)
removed_kept (first ∷ xs) (suc index) zero x apart is = (0, is)
removed_kept (first ∷ xs) (suc index) (suc at) x apart is =
    let later = removed_kept xs index at x (λ same. apart (ap suc same)) is in (suc later.0, later.1)
