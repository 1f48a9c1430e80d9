-- A list in which something is looked for, one item after another.
use Rattle.std.proofs.Common.{◌≡◌, ℕ, ◌+◌, ◌<◌, ◌≤◌, true, false, List, length, Option, Some, None, slice_get}
use Rattle.std.proofs.Common.{inl, inr, refl, sym, ap}
use Rattle.std.proofs.Common.{subst, ◌∙◌, arith}
use Rattle.std.specs.Prelude.{IsSomeAnd}
use Rattle.std.specs.Option.{ForSome}
use Rattle.std.proofs.lemmas.Option.{same_Some, slice_get_within}
use Rattle.std.proofs.lemmas.Bool.{cases_eq}

-- it isn't among the items before this place
abbrev pub NoneBelow : {A : Type 0} → (A → Type 0) → List A → (place : ℕ) → Type 0
NoneBelow P xs place = (other : ℕ) → other < place → ForSome (slice_get xs other) (λ x. P x → ⊥)

pub none_more : {A : Type 0} (P : A → Type 0) (xs : List A) (place : ℕ) (x : A) → slice_get xs place ≡ Some x
    → (P x → ⊥) → NoneBelow P xs place → NoneBelow P xs (place + 1)
none_more P xs place x there not_this before other low one at = elim (cases_eq other place) [
  | inl same ↦
      let is : x ≡ one = same_Some x one (sym there ∙ ap (λ n. slice_get xs n) (sym same) ∙ at) in
      subst (λ it. P it → ⊥) is not_this
  | inr apart ↦ before other (omega arith) one at
]

pub none_at_all : {A : Type 0} (P : A → Type 0) (xs : List A) (place : ℕ) → length xs ≤ place
    → NoneBelow P xs place → (other : ℕ) → ForSome (slice_get xs other) (λ x. P x → ⊥)
none_at_all P xs place all before other one at =
    let low = slice_get_within xs other one at in
    before other (omega arith) one at

pub holds_of : {A : Type 0} (P : A → Type 0) (o : Option A) (x : A) → o ≡ Some x → P x → IsSomeAnd o P
holds_of P None x at holds = absurd (cc)
holds_of P (Some y) x at holds = subst P (sym (same_Some y x at)) holds

pub taken_from : {A : Type 0} (P : A → Type 0) (o : Option A) → IsSomeAnd o P → (x : A) × (o ≡ Some x) × P x
taken_from P None h = absurd h
taken_from P (Some x) h = (x, refl, h)

pub absent : {A : Type 0} (P : A → Type 0) (xs : List A)
    → ((other : ℕ) → ForSome (slice_get xs other) (λ x. P x → ⊥))
    → ((place : ℕ) × IsSomeAnd (slice_get xs place) P) → ⊥
absent P xs none found =
    let one = taken_from P (slice_get xs found.0) found.1 in
    none found.0 one.0 one.1 one.2

-- what a test that failed would have shown
pub untrue : false ≡ true → ⊥
untrue is = absurd (cc)
