-- A list from one place on.
use Rattle.std.proofs.Common.{◌≡◌, ℕ, ◌+◌, ◌<◌, Bool, List, [], ◌∷◌, ◌++◌, length, take, drop, get_or, refl, ap, ◌∙◌}
use Rattle.std.proofs.Common.{add-one}
use Rattle.std.specs.Prelude.{◌||◌, map}
use Rattle.std.specs.List.{list_any}
use Rattle.std.proofs.Math.Seq.{drop-cons}
use Rattle.std.proofs.lemmas.List.{map-append, take_more}

-- what stands at the place, and the rest
pub drop_one : {X : Type 0} (xs : List X) (place : ℕ) (none : X) → place < length xs
    → drop place xs ≡ get_or xs place none ∷ drop (place + 1) xs
drop_one xs place none within = rw (add-one, drop-cons xs place none) refl

pub any_map : {X Y : Type 0} (test : Y → Bool) (f : X → Y) (xs : List X)
    → list_any test (map f xs) ≡ list_any (λ x. test (f x)) xs
any_map test f [] = refl
any_map test f (x ∷ xs) = ap (λ b. test (f x) || b) (any_map test f xs)

-- one more of those that were mapped
pub map_more : {X Y : Type 0} (f : X → Y) (xs : List X) (place : ℕ) (none : X) → place < length xs
    → map f (take (place + 1) xs) ≡ map f (take place xs) ++ f (get_or xs place none) ∷ []
map_more f xs place none within =
    ap (map f) (take_more xs place none within) ∙ map-append f (take place xs) (get_or xs place none ∷ [])
