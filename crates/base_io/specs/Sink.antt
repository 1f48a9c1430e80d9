-- What a write to a sink does.
use Rattle.std.specs.Prelude.{ℕ, ◌≤◌, ◌<◌, List, take, Option, ⊤}
use Rattle.std.specs.Io.KnownBytes.{Appends, Keeps}
use Rattle.base_io.specs.declared.sink.Put.{Put}
use Rattle.base_io.specs.declared.sink.Put.TheVariants as put

abbrev pub IsFailed : Put → Type 0
IsFailed (put.Put n) = ⊥
IsFailed put.Failed = ⊤

-- no more bytes than were handed in, and at least one where there is one
abbrev pub TakesSome : Put → ℕ → Type 0
TakesSome (put.Put n) len = (n ≤ len) × (0 < len → 0 < n)
TakesSome put.Failed len = ⊤

-- the bytes from the beginning are appended; a failure changes nothing
abbrev pub Takes : Option (List ℕ) → Option (List ℕ) → Put → List ℕ → Type 0
Takes old new (put.Put n) bytes = Appends old new (take n bytes)
Takes old new put.Failed bytes = Keeps old new
