-- A list cut into parts that follow one another.
use Rattle.std.specs.Prelude.{ℕ, ◌+◌, List, [], ◌∷◌, Some, None, take, drop, slice_get}
use Prim.Native.Nat.{zero, suc}

-- the list's first parts, of as many elements each as the counts say
abbrev pub cut : {A : Type 0} → List ℕ → List A → List (List A)
cut [] xs = []
cut (count ∷ counts) xs = take count xs ∷ cut counts (drop count xs)

-- where a part begins: the sum of the counts before it
abbrev pub start_of : List ℕ → ℕ → ℕ
start_of [] part = 0
start_of (count ∷ counts) zero = 0
start_of (count ∷ counts) (suc part) = count + start_of counts part

-- the sum of the counts
abbrev pub total_of : List ℕ → ℕ
total_of [] = 0
total_of (count ∷ counts) = count + total_of counts

-- the count of a part: 0 where there is no such part
abbrev pub count_at : List ℕ → ℕ → ℕ
count_at counts part = elim (slice_get counts part) [ Some count ↦ count | None ↦ 0 ]

-- a part of the list
abbrev pub part_of : {A : Type 0} → List ℕ → List A → ℕ → List A
part_of counts xs part = take (count_at counts part) (drop (start_of counts part) xs)
