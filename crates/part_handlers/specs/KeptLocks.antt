-- What holds of the locks that are held.
use Rattle.std.specs.Prelude.{◌≡◌, ◌<◌, List, [], ◌∷◌, None}
use Rattle.part_handlers.specs.declared.lock_answer.Held.{Held}
use Rattle.part_handlers.specs.Locks.{holder}

-- each of them is there, and is held once
abbrev pub AreLocks : List Held → Type 0
AreLocks [] = Unit {0}
AreLocks (one ∷ held) = (one.lock < 64) × (holder held one.lock ≡ None) × AreLocks held
