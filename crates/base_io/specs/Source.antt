-- What a read of a source does.
use Rattle.std.specs.Prelude.{◌≡◌, ℕ, ◌≤◌, ◌<◌, List, length, take, Option, ⊤}
use Rattle.std.specs.Io.KnownBytes.{Consumes, Keeps, IsAtEnd}
use Rattle.base_io.specs.declared.source.Got.{Got}
use Rattle.base_io.specs.declared.source.Got.TheVariants as got

abbrev pub IsFailed : Got → Type 0
IsFailed (got.Got n) = ⊥
IsFailed got.End = ⊥
IsFailed got.Failed = ⊤

-- no more bytes than the buffer has
abbrev pub GivesAtMost : Got → ℕ → Type 0
GivesAtMost (got.Got n) room = n ≤ room
GivesAtMost got.End room = ⊤
GivesAtMost got.Failed room = ⊤

-- what is left loses the bytes that were given; the end is told only where nothing is left; a failure changes nothing
abbrev pub Gives : Option (List ℕ) → Option (List ℕ) → Got → List ℕ → Type 0
Gives old new (got.Got n) buf = Consumes old new (take n buf) × (n ≡ 0 → 0 < length buf → IsAtEnd new)
Gives old new got.End buf = Keeps old new × IsAtEnd new
Gives old new got.Failed buf = Keeps old new
