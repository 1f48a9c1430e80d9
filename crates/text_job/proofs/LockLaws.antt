-- Locks that are listed as they should be.
use Rattle.std.proofs.Common.{◌≡◌, ℕ, ◌+◌, ◌≤◌, List, [], ◌∷◌, leb, ◌&&◌, true}
use Rattle.std.proofs.lemmas.Bool.{and_parts, leb-true}
use Rattle.std.specs.List.{AllByRecursion}
use Rattle.text_job.specs.Locks.{are_listed}

-- no lock is above 63
abbrev pub AreLocks : List ℕ → Type 0
AreLocks locks = AllByRecursion (λ lock. lock ≤ 63) locks

pub listed_locks : (least : ℕ) (locks : List ℕ) → are_listed least locks ≡ true → AreLocks locks
listed_locks least [] listed = tt
listed_locks least (lock ∷ locks) listed =
    let first = and_parts (leb least lock) (leb lock 63 && are_listed (lock + 1) locks) listed in
    let second = and_parts (leb lock 63) (are_listed (lock + 1) locks) first.1 in
    (leb-true lock 63 second.0, listed_locks (lock + 1) locks second.1)
