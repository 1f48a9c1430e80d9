-- Lists whose elements are counted from 1.
use Rattle.std.specs.Prelude.{ℕ, zero, suc, List, Option, None, slice_get}
use Rattle.base_lists.specs.Update.{update}

-- the element of that number, counted from 1
abbrev pub element_at : {X : Type 0} → List X → (number : ℕ) → Option X
element_at xs zero = None
element_at xs (suc place) = slice_get xs place

-- the list with f of the element of that number, and unchanged where there is none
abbrev pub change : {X : Type 0} → (X → X) → List X → (number : ℕ) → List X
change f xs zero = xs
change f xs (suc place) = update xs place f
