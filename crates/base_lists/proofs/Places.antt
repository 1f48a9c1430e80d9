-- What stands at a place of a list, counted from 0.
use Rattle.std.proofs.Common.{◌≡◌, ◌⊎◌, inl, inr, ℕ, zero, suc, ◌<◌, List, [], ◌∷◌, ◌++◌, length, replicate, Some, refl}
use Rattle.std.proofs.Common.{arith, None, ◌≤◌}
use Rattle.std.specs.List.{slice_get}
pub use Rattle.std.proofs.lemmas.Option.{slice_get_past, slice_get_within as slice_get_in}

-- what stands at a place of a list with one element more stood there, or is that element
pub slice_get_push : {X : Type 0} (xs : List X) (y : X) (place : ℕ) (x : X)
    → slice_get (xs ++ y ∷ []) place ≡ Some x
    → (slice_get xs place ≡ Some x) ⊎ ((place ≡ length xs) × (y ≡ x))
slice_get_push [] y zero x e = inr (refl, cc)
slice_get_push [] y (suc place) x e = absurd (cc)
slice_get_push (z ∷ xs) y zero x e = inl e
slice_get_push (z ∷ xs) y (suc place) x e =
    elim (slice_get_push xs y place x e) [ inl h ↦ inl h | inr h ↦ inr (omega (arith, h.0), h.1) ]

-- what stands at a place stands there with one element more
pub slice_get_kept : {X : Type 0} (xs : List X) (y : X) (place : ℕ) (x : X) → slice_get xs place ≡ Some x
    → slice_get (xs ++ y ∷ []) place ≡ Some x
slice_get_kept [] y place x e = absurd (cc)
slice_get_kept (z ∷ xs) y zero x e = e
slice_get_kept (z ∷ xs) y (suc place) x e = slice_get_kept xs y place x e

-- one element more stands at the end
pub slice_get_last : {X : Type 0} (xs : List X) (y : X) → slice_get (xs ++ y ∷ []) (length xs) ≡ Some y
slice_get_last [] y = refl
slice_get_last (z ∷ xs) y = slice_get_last xs y

-- something stands at each place within the list
pub slice_get_there : {X : Type 0} (xs : List X) (place : ℕ) → place < length xs
    → (x : X) × (slice_get xs place ≡ Some x)
slice_get_there [] place low = absurd (omega arith)
slice_get_there (x ∷ xs) zero low = (x, refl)
slice_get_there (x ∷ xs) (suc place) low = slice_get_there xs place (omega arith)

-- of a list of the same elements
pub slice_get-replicate : {X : Type 0} (count place : ℕ) (x : X) → place < count
    → slice_get (replicate count x) place ≡ Some x
slice_get-replicate zero place x low = absurd (omega arith)
slice_get-replicate (suc count) zero x low = refl
slice_get-replicate (suc count) (suc place) x low = slice_get-replicate count place x (omega arith)

-- where nothing stands, the list has ended
pub slice_get_short : {X : Type 0} (xs : List X) (place : ℕ) → slice_get xs place ≡ None → length xs ≤ place
slice_get_short [] place e = omega arith
slice_get_short (x ∷ xs) zero e = absurd (cc)
slice_get_short (x ∷ xs) (suc place) e = let rest = slice_get_short xs place e in omega (arith, rest)
