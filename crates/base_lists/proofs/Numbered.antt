-- What a list has by a number, counted from 1, where it is one element longer or changed at one number.
use Rattle.std.proofs.Common.{◌≡◌, ◌≢◌, ◌⊎◌, inl, inr, ℕ, zero, suc, ◌+◌, ◌<◌, ◌≤◌, List, [], ◌∷◌, ◌++◌, length, map}
use Rattle.std.proofs.Common.{None, Some, refl, sym, ap, ◌∙◌, subst, arith}
use Rattle.std.specs.List.{slice_get}
use Rattle.std.proofs.lemmas.Option.{same_Some, slice_get_within, slice_get-map}
use Rattle.std.specs.Option.{option_map}
use Rattle.base_lists.specs.Numbered.{element_at, change}
use Rattle.base_lists.proofs.Cases.{cases_option, none_some}
use Rattle.base_lists.proofs.Places.{slice_get_push, slice_get_kept}
use Rattle.base_lists.proofs.Update.{length-update, update_here, update_was, update_has}

-- an empty list has nothing by any number
pub numbered_nil : {X : Type 0} (k : ℕ) (x : X) → element_at [] k ≡ Some x → ⊥
numbered_nil zero x e = cc
numbered_nil (suc place) x e = cc

-- nor has a list that is empty
pub numbered_none : {X : Type 0} (xs : List X) (k : ℕ) → xs ≡ [] → element_at xs k ≡ None
numbered_none xs zero e = refl
numbered_none xs (suc place) e = ap (λ ys. slice_get ys place) e

-- a number of something lies between 1 and the length
pub numbered_in : {X : Type 0} (xs : List X) (k : ℕ) (x : X) → element_at xs k ≡ Some x → (0 < k) × (k ≤ length xs)
numbered_in xs zero x e = absurd (cc)
numbered_in xs (suc place) x e = (omega arith, omega (arith, slice_get_within xs place x e))

-- a place counted from 0 is a number counted from 1
pub numbered_at : {X : Type 0} (xs : List X) (k place : ℕ) (x : X) → slice_get xs place ≡ Some x → k ≡ 1 + place
    → element_at xs k ≡ Some x
numbered_at xs k place x e is = subst (λ q. element_at xs q ≡ Some x) {x = suc place} (omega arith) e

-- a number of the rest is one more in the whole
pub numbered_on : {X : Type 0} (x : X) (xs : List X) (k : ℕ) (y : X) → element_at xs k ≡ Some y
    → element_at (x ∷ xs) (suc k) ≡ Some y
numbered_on x xs zero y e = absurd (cc)
numbered_on x xs (suc place) y e = e

-- ---- one element longer

-- what a list with one element more has by a number it had, or it is that element
pub numbered_push : {X : Type 0} (xs : List X) (y : X) (k : ℕ) (x : X) → element_at (xs ++ y ∷ []) k ≡ Some x
    → (element_at xs k ≡ Some x) ⊎ ((k ≡ suc (length xs)) × (y ≡ x))
numbered_push xs y zero x e = inl e
numbered_push xs y (suc place) x e =
    elim (slice_get_push xs y place x e) [ inl h ↦ inl h | inr h ↦ inr (ap suc h.0, h.1) ]

-- what a list has by a number it has with one element more
pub numbered_kept : {X : Type 0} (xs : List X) (y : X) (k : ℕ) (x : X) → element_at xs k ≡ Some x
    → element_at (xs ++ y ∷ []) k ≡ Some x
numbered_kept xs y zero x e = e
numbered_kept xs y (suc place) x e = slice_get_kept xs y place x e

-- ---- one element changed

-- a change keeps the length
pub length-change : {X : Type 0} (f : X → X) (xs : List X) (k : ℕ) → length (change f xs k) ≡ length xs
length-change f xs zero = refl
length-change f xs (suc place) = length-update xs place f

-- nothing is changed in an empty list
pub change_none : {X : Type 0} (f : X → X) (k : ℕ) (xs : List X) → xs ≡ [] → change f xs k ≡ []
change_none f zero xs e = e
change_none f (suc place) xs e = rw e refl

-- what is by the number is f of what was
pub numbered-change_here : {X : Type 0} (f : X → X) (xs : List X) (k : ℕ) (y : X) → element_at xs k ≡ Some y
    → element_at (change f xs k) k ≡ Some (f y)
numbered-change_here f xs zero y e = absurd (cc)
numbered-change_here f xs (suc place) y e = update_here f xs place y e

-- what is by any number was so, or is f of what was
pub numbered-change : {X : Type 0} (f : X → X) (xs : List X) (k l : ℕ) (x : X) → element_at (change f xs k) l ≡ Some x
    → (y : X) × (element_at xs l ≡ Some y) × (((l ≢ k) × (x ≡ y)) ⊎ ((l ≡ k) × (x ≡ f y)))
numbered-change f xs k zero x e = absurd (cc)
numbered-change f xs zero (suc any) x e = (x, e, inl ((λ h. omega (arith, h)), refl))
numbered-change f xs (suc place) (suc any) x e =
    let it = update_was f xs place any x e in (
      it.0,
      it.1,
      elim it.2 [
        | inl h ↦ inl ((λ (same : suc any ≡ suc place). h.0 (omega (arith, same))), h.1)
        | inr h ↦ inr (ap suc h.0, h.1)
      ],
    )

-- and what was by a number is so, or f of it
pub numbered-changed : {X : Type 0} (f : X → X) (xs : List X) (k l : ℕ) (y : X) → element_at xs l ≡ Some y
    → (x : X) × (element_at (change f xs k) l ≡ Some x) × ((x ≡ y) ⊎ (x ≡ f y))
numbered-changed f xs zero l y e = (y, e, inl refl)
numbered-changed f xs (suc place) zero y e = absurd (cc)
numbered-changed f xs (suc place) (suc any) y e = update_has f xs place any y e

-- ---- maps

-- what a list has by a number its map has by it
pub numbered_map : {X Y : Type 0} (f : X → Y) (xs : List X) (k : ℕ) (x : X) → element_at xs k ≡ Some x
    → element_at (map f xs) k ≡ Some (f x)
numbered_map f xs zero x e = absurd (cc)
numbered_map f xs (suc place) x e = slice_get-map f xs place ∙ ap (option_map f) e

-- what the map has by a number is that of what the list has by it
pub numbered_mapped : {X Y : Type 0} (f : X → Y) (xs : List X) (k : ℕ) (y : Y) → element_at (map f xs) k ≡ Some y
    → (x : X) × (element_at xs k ≡ Some x) × (f x ≡ y)
numbered_mapped f xs zero y e = absurd (cc)
numbered_mapped f xs (suc place) y e =
    let at = sym (slice_get-map f xs place) ∙ e in
    elim (cases_option (slice_get xs place)) [
      | inl none ↦ absurd (none_some (sym (ap (option_map f) none) ∙ at))
      | inr some ↦ (some.0, some.1, same_Some (f some.0) y (sym (ap (option_map f) some.1) ∙ at))
    ]
