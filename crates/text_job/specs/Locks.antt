-- The locks that a handler lists.
use Rattle.std.specs.Prelude.{ℕ, ◌+◌, ◌^◌, List, [], ◌∷◌, Bool, true, ◌&&◌, nat_le, bit_or}
use Rattle.std.specs.List.{fold}

-- whether locks are listed as they should be: strictly rising from one on, and none above 63
abbrev pub are_listed : (least : ℕ) → List ℕ → Bool
are_listed least [] = true
are_listed least (lock ∷ locks) = nat_le least lock && (nat_le lock 63 && are_listed (lock + 1) locks)

-- such locks as a number of 64 bits, of which each lock has the bit of its number
abbrev pub listed_by : List ℕ → ℕ
listed_by locks = fold (λ listed lock. bit_or listed (2 ^ lock)) 0 locks
