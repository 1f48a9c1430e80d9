-- What is in a list, and what holds of each of its elements.
use Rattle.std.proofs.Common.{◌≡◌, zero, suc, List, [], ◌∷◌, ◌++◌, sym, arith}
use Rattle.std.specs.List.{AllByRecursion, Contains}

-- nothing is in an empty list
pub contains_none : {X : Type 0} (x : X) → Contains [] x → ⊥
contains_none x h = omega (arith, h.1)

-- an element is in the list of it alone
pub contains_if : {X : Type 0} {x y : X} → x ≡ y → Contains (y ∷ []) x
contains_if same = (0, omega arith, sym same)

-- what is in a list of one element is that element
pub contains_one : {X : Type 0} (x y : X) → Contains (y ∷ []) x → x ≡ y
contains_one x y (zero, low, is) = sym is
contains_one x y (suc place, low, is) = absurd (omega (arith, low))

-- what holds of both lists holds of the two together
pub all_append : {X : Type 0} (P : X → Type 0) (xs ys : List X) → AllByRecursion P xs → AllByRecursion P ys
    → AllByRecursion P (xs ++ ys)
all_append P [] ys first second = second
all_append P (x ∷ xs) ys first second = (first.0, all_append P xs ys first.1 second)
