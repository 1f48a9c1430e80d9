-- What stands in two lists, one behind the other.
use Rattle.std.proofs.Common.{◌≡◌, ℕ, zero, suc, ◌+◌, List, [], ◌∷◌, ◌++◌, length, Some, None, ap, ◌∙◌, arith}
use Rattle.std.specs.List.{slice_get}

-- what stands in the first of two lists
pub get-append_kept : {A : Type 0} (xs ys : List A) (index : ℕ) (x : A) → slice_get xs index ≡ Some x
    → slice_get (xs ++ ys) index ≡ Some x
get-append_kept [] ys index x there = absurd (cc)
get-append_kept (first ∷ xs) ys zero x there = there
get-append_kept (first ∷ xs) ys (suc index) x there = get-append_kept xs ys index x there

-- what stands past the first of two lists stands in the second
pub get-append_right : {A : Type 0} (xs ys : List A) (index : ℕ) → slice_get (xs ++ ys) (length xs + index)
    ≡ slice_get ys index
get-append_right [] ys index = let same : 0 + index ≡ index = omega arith in ap (slice_get ys) same
get-append_right (x ∷ xs) ys index =
    let same : suc (length xs) + index ≡ suc (length xs + index) = omega arith in
    ap (slice_get (x ∷ (xs ++ ys))) same ∙ get-append_right xs ys index
