-- What a look-up finds after one place changed, and what a sum is then.
use Rattle.std.proofs.Common.{◌≡◌, ◌≢◌, ◌⊎◌, inl, inr, ℕ, suc, zero, ◌+◌, ◌*◌, ◌≤◌, ◌<◌, Option, Some, None, List, []}
use Rattle.std.proofs.Common.{◌∷◌, length, refl, sym, ap, ◌∙◌, arith}
use Rattle.std.specs.Prelude.{slice_get, slice_set, sum_by}
use Rattle.std.specs.Option.{option_map}
use Rattle.std.proofs.lemmas.Bool.{cases_eq}
use Rattle.std.proofs.lemmas.List.Sums.{sum_by-cons}
use Rattle.std.proofs.lemmas.Option.{same_Some}
use Rattle.base_lists.specs.Update.{update}
use Rattle.base_lists.proofs.Cases.{cases_option, none_some}

-- ---- what is at the place

pub update-Some : {A : Type 0} (xs : List A) (place : ℕ) (f : A → A) (x : A) → slice_get xs place ≡ Some x
    → update xs place f ≡ slice_set xs place (f x)
update-Some {A = A} xs place f x e =
    ap (λ (o : Option A). elim o as (λ _. List A) [ Some y ↦ slice_set xs place (f y) | None ↦ xs ]) e

pub update-None : {A : Type 0} (xs : List A) (place : ℕ) (f : A → A) → slice_get xs place ≡ None
    → update xs place f ≡ xs
update-None {A = A} xs place f e =
    ap (λ (o : Option A). elim o as (λ _. List A) [ Some y ↦ slice_set xs place (f y) | None ↦ xs ]) e

-- a place of the rest is one more in the whole
pub update-on : {A : Type 0} (x : A) (xs : List A) (place : ℕ) (f : A → A)
    → update (x ∷ xs) (suc place) f ≡ x ∷ update xs place f
update-on x xs place f = elim (cases_option (slice_get xs place)) [
  | inl none ↦ update-None (x ∷ xs) (suc place) f none ∙ ap (λ ys. x ∷ ys) (sym (update-None xs place f none))
  | inr some ↦ update-Some (x ∷ xs) (suc place) f some.0 some.1
      ∙ ap (λ ys. x ∷ ys) (sym (update-Some xs place f some.0 some.1))
]

pub slice_get-update : {A : Type 0} (xs : List A) (place : ℕ) (f : A → A)
    → slice_get (update xs place f) place ≡ option_map f (slice_get xs place)
slice_get-update [] place f = refl
slice_get-update (x ∷ xs) zero f = refl
slice_get-update (x ∷ xs) (suc place) f =
    ap (λ ys. slice_get ys (suc place)) (update-on x xs place f) ∙ slice_get-update xs place f

pub slice_get-update_other : {A : Type 0} (xs : List A) (place : ℕ) (f : A → A) (other : ℕ) → other ≢ place
    → slice_get (update xs place f) other ≡ slice_get xs other
slice_get-update_other [] place f other apart = refl
slice_get-update_other (x ∷ xs) zero f zero apart = absurd (apart refl)
slice_get-update_other (x ∷ xs) zero f (suc other) apart = refl
slice_get-update_other (x ∷ xs) (suc place) f zero apart = ap (λ ys. slice_get ys 0) (update-on x xs place f)
slice_get-update_other (x ∷ xs) (suc place) f (suc other) apart =
    ap (λ ys. slice_get ys (suc other)) (update-on x xs place f)
    ∙ slice_get-update_other xs place f other (λ e. apart (ap suc e))

-- what is there is f of what was there
pub update_here : {A : Type 0} (f : A → A) (xs : List A) (place : ℕ) (y : A) → slice_get xs place ≡ Some y
    → slice_get (update xs place f) place ≡ Some (f y)
update_here f xs place y e = slice_get-update xs place f ∙ ap (option_map f) e

-- what is at any place was there, or is f of what was there
pub update_was : {A : Type 0} (f : A → A) (xs : List A) (place any : ℕ) (x : A)
    → slice_get (update xs place f) any ≡ Some x
    → (y : A) × (slice_get xs any ≡ Some y) × (((any ≢ place) × (x ≡ y)) ⊎ ((any ≡ place) × (x ≡ f y)))
update_was f xs place any x e = elim (cases_eq any place) [
  | inr apart ↦ (x, sym (slice_get-update_other xs place f any apart) ∙ e, inl (apart, refl))
  | inl same ↦ elim (cases_option (slice_get xs place)) [
    | inl none ↦ absurd (none_some (sym none ∙ (sym (ap (λ ys. slice_get ys place) (update-None xs place f none))
        ∙ (ap (slice_get (update xs place f)) (sym same) ∙ e))))
    | inr some ↦ (
      some.0,
      ap (slice_get xs) same ∙ some.1,
      inr (
        same,
        same_Some x (f some.0)
            (sym e ∙ (ap (slice_get (update xs place f)) same ∙ update_here f xs place some.0 some.1)),
      ),
    )
  ]
]

-- and what was there is there, or f of it
pub update_has : {A : Type 0} (f : A → A) (xs : List A) (place any : ℕ) (y : A) → slice_get xs any ≡ Some y
    → (x : A) × (slice_get (update xs place f) any ≡ Some x) × ((x ≡ y) ⊎ (x ≡ f y))
update_has f xs place any y e = elim (cases_eq any place) [
  | inr apart ↦ (y, slice_get-update_other xs place f any apart ∙ e, inl refl)
  | inl same ↦ (
    f y,
    ap (slice_get (update xs place f)) same ∙ update_here f xs place y (ap (slice_get xs) (sym same) ∙ e),
    inr refl,
  )
]

-- ---- the whole list

-- two changes that agree on each element change the list alike
pub update-same : {A : Type 0} (xs : List A) (place : ℕ) (f g : A → A) → ((x : A) → f x ≡ g x)
    → update xs place f ≡ update xs place g
update-same [] place f g same = refl
update-same (x ∷ xs) zero f g same = ap (λ y. y ∷ xs) (same x)
update-same (x ∷ xs) (suc place) f g same =
    update-on x xs place f ∙ (ap (λ ys. x ∷ ys) (update-same xs place f g same) ∙ sym (update-on x xs place g))

-- two changes of one place are one change
pub update-update : {A : Type 0} (xs : List A) (place : ℕ) (f g : A → A)
    → update (update xs place f) place g ≡ update xs place (λ x. g (f x))
update-update [] place f g = refl
update-update (x ∷ xs) zero f g = refl
update-update (x ∷ xs) (suc place) f g =
    ap (λ ys. update ys (suc place) g) (update-on x xs place f)
    ∙ (update-on x (update xs place f) place g
    ∙ (ap (λ ys. x ∷ ys) (update-update xs place f g) ∙ sym (update-on x xs place (λ y. g (f y)))))

-- a list keeps its length
pub length-update : {A : Type 0} (xs : List A) (place : ℕ) (f : A → A) → length (update xs place f) ≡ length xs
length-update [] place f = refl
length-update (x ∷ xs) zero f = refl
length-update (x ∷ xs) (suc place) f =
    ap length (update-on x xs place f) ∙ ap suc (length-update xs place f)

-- ---- sums over a list

-- a sum changes as the one element does
pub sum_by-update : {A : Type 0} (value : A → ℕ) (xs : List A) (place : ℕ) (f : A → A) (x : A)
    → slice_get xs place ≡ Some x
    → sum_by value (update xs place f) + value x ≡ sum_by value xs + value (f x)
sum_by-update value [] place f x is = absurd (cc)
sum_by-update value (y ∷ xs) zero f x is =
    let same : y ≡ x = same_Some y x is in
    let at : value y ≡ value x = ap value same in
    let after : value (f y) ≡ value (f x) = ap (λ z. value (f z)) same in
    omega (arith, sum_by-cons value y xs, sum_by-cons value (f y) xs)
sum_by-update value (y ∷ xs) (suc place) f x is =
    let on : sum_by value (update (y ∷ xs) (suc place) f) ≡ sum_by value (y ∷ update xs place f)
    = ap (sum_by value) (update-on y xs place f) in
    omega (
      arith,
      on,
      sum_by-cons value y xs,
      sum_by-cons value y (update xs place f),
      sum_by-update value xs place f x is,
    )

-- a sum stays where the change keeps each element's value
pub sum_by-update_same : {A : Type 0} (value : A → ℕ) (xs : List A) (place : ℕ) (f : A → A)
    → ((x : A) → value (f x) ≡ value x) → sum_by value (update xs place f) ≡ sum_by value xs
sum_by-update_same value xs place f same = elim (cases_option (slice_get xs place)) [
  | inr some ↦ omega (arith, sum_by-update value xs place f some.0 some.1, same some.0)
  | inl none ↦ ap (sum_by value) (update-None xs place f none)
]

-- a sum of values is at most the sum of their bounds
pub sum_by-below : {A : Type 0} (value bound : A → ℕ) (xs : List A) → ((x : A) → value x ≤ bound x)
    → sum_by value xs ≤ sum_by bound xs
sum_by-below value bound [] low = omega arith
sum_by-below value bound (x ∷ xs) low =
    omega (arith, sum_by-cons value x xs, sum_by-cons bound x xs, low x, sum_by-below value bound xs low)

-- a sum of values that are all the same
pub sum_by-same : {A : Type 0} (value : A → ℕ) (xs : List A) (each : ℕ)
    → ((place : ℕ) (x : A) → slice_get xs place ≡ Some x → value x ≡ each) → sum_by value xs ≡ length xs * each
sum_by-same value [] each same = omega arith
sum_by-same value (x ∷ xs) each same =
    omega (
      arith,
      sum_by-cons value x xs,
      same 0 x refl,
      sum_by-same value xs each (λ place y is. same (suc place) y is),
    )

-- a sum of values that are all the same but for one that is 0
pub sum_by-same_but_one : {A : Type 0} (value : A → ℕ) (xs : List A) (one each : ℕ) → one < length xs
    → ((x : A) → slice_get xs one ≡ Some x → value x ≡ 0)
    → ((place : ℕ) (x : A) → place ≢ one → slice_get xs place ≡ Some x → value x ≡ each)
    → sum_by value xs + each ≡ length xs * each
sum_by-same_but_one value [] one each inside none same = absurd (omega arith)
sum_by-same_but_one value (x ∷ xs) zero each inside none same =
    omega (
      arith,
      sum_by-cons value x xs,
      none x refl,
      sum_by-same value xs each (λ place y is. same (suc place) y (λ e. absurd (omega arith)) is),
    )
sum_by-same_but_one value (x ∷ xs) (suc one) each inside none same =
    omega (
      arith,
      sum_by-cons value x xs,
      same 0 x (λ e. absurd (omega arith)) refl,
      sum_by-same_but_one value xs one each (omega arith) (λ y is. none y is)
          (λ place y other is. same (suc place) y (λ e. other (omega arith)) is),
    )
