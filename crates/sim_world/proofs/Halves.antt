-- A list that is split in two, of which one element changes.
use Rattle.std.proofs.Common.{ℕ, ◌≡◌, ◌+◌, ◌<◌, Some, List, [], ◌∷◌, ◌++◌, length, set, suc}
use Rattle.std.proofs.Common.{zero, refl, sym, ap, ◌∙◌, arith}
use Rattle.std.specs.List.{slice_get}
use Rattle.base_lists.proofs.Indexes.{get-append_left}

get_right : {X : Type 0} (xs ys : List X) (k n : ℕ) → n ≡ length xs + k → slice_get (xs ++ ys) n ≡ slice_get ys k
get_right [] ys k n e = let same : n ≡ k = omega arith in ap (slice_get ys) same
get_right (x ∷ xs) ys k zero e = absurd (omega arith)
get_right (x ∷ xs) ys k (suc n) e = get_right xs ys k n (omega arith)

set_left : {X : Type 0} (xs ys : List X) (k : ℕ) (v : X) → k < length xs → set (xs ++ ys) k v ≡ set xs k v ++ ys
set_left [] ys k v lt = absurd (omega arith)
set_left (x ∷ xs) ys zero v lt = refl
set_left {X = X} (x ∷ xs) ys (suc k) v lt = ap (λ (zs : List X). x ∷ zs) (set_left xs ys k v (omega arith))

set_right : {X : Type 0} (xs ys : List X) (k n : ℕ) (v : X) → n ≡ length xs + k
    → set (xs ++ ys) n v ≡ xs ++ set ys k v
set_right [] ys k n v e = let same : n ≡ k = omega arith in ap (λ (i : ℕ). set ys i v) same
set_right (x ∷ xs) ys k zero v e = absurd (omega arith)
set_right {X = X} (x ∷ xs) ys k (suc n) v e = ap (λ (zs : List X). x ∷ zs) (set_right xs ys k n v (omega arith))

-- what stands in the first part, or in the second, stands in the whole
pub here_left : {X : Type 0} (all xs ys : List X) (k : ℕ) (x : X) → all ≡ xs ++ ys → k < length xs
    → slice_get xs k ≡ Some x → slice_get all k ≡ Some x
here_left {X = X} all xs ys k x split lt at = ap (λ (zs : List X). slice_get zs k) split
    ∙ (get-append_left xs ys k lt ∙ at)

pub here_right : {X : Type 0} (all xs ys : List X) (k n : ℕ) (x : X) → all ≡ xs ++ ys → n ≡ length xs + k
    → slice_get ys k ≡ Some x → slice_get all n ≡ Some x
here_right {X = X} all xs ys k n x split e at =
    ap (λ (zs : List X). slice_get zs n) split ∙ (get_right xs ys k n e ∙ at)

-- the changed element stands in the first part, or in the second
pub changed_left : {X : Type 0} (all xs ys : List X) (k : ℕ) (new : X) → all ≡ xs ++ ys → k < length xs
    → set xs k new ++ ys ≡ set all k new
changed_left {X = X} all xs ys k new split lt =
    sym (set_left xs ys k new lt) ∙ ap (λ (zs : List X). set zs k new) (sym split)

pub changed_right : {X : Type 0} (all xs ys : List X) (k n : ℕ) (new : X) → all ≡ xs ++ ys → n ≡ length xs + k
    → xs ++ set ys k new ≡ set all n new
changed_right {X = X} all xs ys k n new split e =
    sym (set_right xs ys k n new e) ∙ ap (λ (zs : List X). set zs n new) (sym split)
