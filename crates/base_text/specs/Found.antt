-- What the readers of words return, beside what reading is.
use Rattle.std.specs.Prelude.{◌≡◌, Option, Some, None, Result, Ok, Err}
use Rattle.base_text.specs.declared.miss.Miss.{Miss}
use Rattle.base_text.specs.declared.miss.Miss.TheVariants as miss
use Rattle.base_text.specs.declared.miss.Other.{Other}

-- what was found is what reading finds
abbrev pub Finds : {X Y : Type 0} → (X → Y) → Result X Other → Option Y → Type 0
Finds view (Ok x) found = found ≡ Some (view x)
Finds view (Err e) found = found ≡ None

-- a reader failed by want of memory, or found nothing
abbrev pub Fails : {Y : Type 0} → Miss → Option Y → Type 0
Fails miss.NoMemory found = Unit {0}
Fails miss.Unlike found = found ≡ None

-- what was read is what reading finds, unless memory ran out
abbrev pub Reads : {X Y : Type 0} → (X → Y) → Result X Miss → Option Y → Type 0
Reads view (Ok x) found = found ≡ Some (view x)
Reads view (Err e) found = Fails e found
