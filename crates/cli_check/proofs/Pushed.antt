-- What holds of each item of a list, and of one more.
use Rattle.std.proofs.Common.{◌≡◌, ℕ, zero, suc, List, [], ◌∷◌, ◌++◌, length, map, Some, slice_get, sym, ap, ap₂, subst}
use Rattle.std.proofs.Common.{◌∙◌}
use Rattle.std.proofs.lemmas.List.{map-append}
use Rattle.std.proofs.lemmas.Option.{same_Some}

pub pushed_at : {A : Type 0} (P : ℕ → A → Type 0) (xs : List A) (x : A)
    → ((place : ℕ) (y : A) → slice_get xs place ≡ Some y → P place y) → P (length xs) x
    → (place : ℕ) (y : A) → slice_get (xs ++ x ∷ []) place ≡ Some y → P place y
pushed_at P [] x each last zero y at = subst (P 0) (same_Some x y at) last
pushed_at P [] x each last (suc place) y at = absurd (cc)
pushed_at P (z ∷ xs) x each last zero y at = each 0 y at
pushed_at P (z ∷ xs) x each last (suc place) y at =
    pushed_at (λ n. P (suc n)) xs x (λ k. each (suc k)) last place y at

-- what is made of the items of a list, and of one more, is what is made of those of the other
pub mapped_more : {A B C : Type 0} (f : A → C) (g : B → C) (xs all : List A) (x : A) (ys : List B) (y : B)
    → all ≡ xs ++ x ∷ [] → f x ≡ g y → map f xs ≡ map g ys → map f all ≡ map g (ys ++ y ∷ [])
mapped_more f g xs all x ys y pushed last same =
    ap (map f) pushed ∙ map-append f xs (x ∷ []) ∙ ap₂ (λ prefix back. prefix ++ back ∷ []) same last
    ∙ sym (map-append g ys (y ∷ []))

pub made_more : {A C : Type 0} (g : A → C) (xs all : List C) (x : C) (ys : List A) (y : A) → all ≡ xs ++ x ∷ []
    → x ≡ g y → xs ≡ map g ys → all ≡ map g (ys ++ y ∷ [])
made_more g xs all x ys y pushed last same =
    pushed ∙ ap₂ (λ prefix back. prefix ++ back ∷ []) same last ∙ sym (map-append g ys (y ∷ []))
