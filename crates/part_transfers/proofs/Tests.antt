-- Tests over lists, and lists that were written at one place.
use Rattle.std.proofs.Common.{◌≡◌, ◌≢◌, ◌⊎◌, inl, inr, ℕ, zero, suc, ◌<◌, Bool, true, false, true≢false, List}
use Rattle.std.proofs.Common.{[], ◌∷◌, Some, length, set, refl, sym, ap, ◌∙◌, arith}
use Rattle.std.specs.List.{slice_get, list_any}
use Rattle.std.proofs.lemmas.Bool.{cases_Bool, cases_eq, false_from_ne_true}
use Rattle.std.proofs.lemmas.List.{length-set}
use Rattle.std.proofs.lemmas.Option.{same_Some, slice_get_within}
use Rattle.base_lists.proofs.Indexes.{get-set_same, get-set_other}

pub same_test : (one other : Bool) → (one ≡ true → other ≡ true) → (other ≡ true → one ≡ true) → one ≡ other
same_test true other there back = sym (there refl)
same_test false other there back = sym (false_from_ne_true other (λ is. true≢false (sym (back is))))

pub any_at : {X : Type 0} (test : X → Bool) (xs : List X) → list_any test xs ≡ true
    → (place : ℕ) × (x : X) × (slice_get xs place ≡ Some x) × (test x ≡ true)
any_at test [] any = absurd (true≢false (sym any))
any_at test (x ∷ xs) any = elim (cases_Bool (test x)) [
  | inl is ↦ (0, x, refl, is)
  | inr isnt ↦ (let later = any_at test xs (rw isnt at any) in (suc later.0, later.1, later.2, later.3))
]

pub any_from : {X : Type 0} (test : X → Bool) (xs : List X) (place : ℕ) (x : X) → slice_get xs place ≡ Some x
    → test x ≡ true
    → list_any test xs ≡ true
any_from test [] place x at is = absurd (cc)
any_from test (y ∷ xs) zero x at is = rw (ap test (same_Some y x at) ∙ is) refl
any_from test (y ∷ xs) (suc place) x at is =
    elim (cases_Bool (test y)) [ inl here ↦ rw here refl | inr isnt ↦ rw isnt (any_from test xs place x at is) ]

pub none_picked : {X : Type 0} (test : X → Bool) (xs : List X)
    → ((place : ℕ) (x : X) → slice_get xs place ≡ Some x → test x ≡ false) → list_any test xs ≡ false
none_picked test [] none = refl
none_picked test (x ∷ xs) none = rw (none 0 x refl) (none_picked test xs (λ place y at. none (suc place) y at))

-- what stands at a place after a write
pub get_set : {X : Type 0} (xs : List X) (place : ℕ) (x : X) (other : ℕ) (y : X)
    → slice_get (set xs place x) other ≡ Some y
    → ((other ≡ place) × (x ≡ y)) ⊎ ((other ≢ place) × (slice_get xs other ≡ Some y))
get_set xs place x other y at = elim (cases_eq other place) [
  | inl same ↦ (
      let here : slice_get (set xs place x) place ≡ Some y = ap (slice_get (set xs place x)) (sym same) ∙ at in
      let within : place < length xs =
      (let less = slice_get_within (set xs place x) place y here in let many = length-set xs place x in
      omega (arith, less, many)) in
      inl (same, same_Some x y (sym (get-set_same xs place x within) ∙ here)))
  | inr apart ↦ inr (apart, sym (get-set_other xs place x other apart) ∙ at)
]
