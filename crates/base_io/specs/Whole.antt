-- What reading all and writing all do.
use Rattle.std.specs.Prelude.{◌≡◌, ℕ, ◌≤◌, ◌<◌, List, ◌++◌, length, Option, ⊤}
use Rattle.std.specs.Io.KnownBytes.{Appends, Consumes, IsAtEnd}
use Rattle.base_io.specs.declared.reading.ReadAll.{ReadAll}
use Rattle.base_io.specs.declared.reading.ReadAll.TheVariants as all
use Rattle.base_io.specs.declared.writing.Wrote.{Wrote}
use Rattle.base_io.specs.declared.writing.Wrote.TheVariants as wrote

abbrev pub IsFault : ReadAll → Type 0
IsFault (all.Bytes v) = ⊥
IsFault all.TooLong = ⊥
IsFault all.Fault = ⊤
IsFault all.NoMemory = ⊥

-- at most limit bytes were read
abbrev pub ReadsUpTo : Option (List ℕ) → Option (List ℕ) → ℕ → Type 0
ReadsUpTo old new limit = (bytes : List ℕ) × (length bytes ≤ limit) × Consumes old new bytes

-- `Bytes` are all that was left; it is too long exactly where more than limit bytes were read
abbrev pub ReadsAll : Option (List ℕ) → Option (List ℕ) → ℕ → ReadAll → Type 0
ReadsAll old new limit (all.Bytes v) = (length v.items ≤ limit) × Consumes old new v.items × IsAtEnd new
ReadsAll old new limit all.TooLong = (bytes : List ℕ) × (limit < length bytes) × Consumes old new bytes
ReadsAll old new limit all.Fault = ReadsUpTo old new limit
ReadsAll old new limit all.NoMemory = ReadsUpTo old new limit

abbrev pub IsWriteFault : Wrote → Type 0
IsWriteFault wrote.Done = ⊥
IsWriteFault wrote.Fault = ⊤

-- the bytes were taken in order, up to the rest
pub record TakesUpTo (old new : Option (List ℕ)) (bytes rest : List ℕ) : Type 0 where
  pub prefix : List ℕ
  pub whole : bytes ≡ prefix ++ rest
  pub taken : Appends old new prefix

-- all of the bytes were taken, or at a fault a prefix of them
abbrev pub WritesAll : Option (List ℕ) → Option (List ℕ) → List ℕ → Wrote → Type 0
WritesAll old new bytes wrote.Done = Appends old new bytes
WritesAll old new bytes wrote.Fault = (rest : List ℕ) × TakesUpTo old new bytes rest
