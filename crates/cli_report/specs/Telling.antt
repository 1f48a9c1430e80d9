-- Telling a person.
use Rattle.std.specs.Prelude.{◌≡◌, ℕ, List, [], ◌++◌, Bool, true, false, if◌then◌else◌, Option, Some, None, Result, Ok}
use Rattle.std.specs.Prelude.{Err, String, ⊤}
use Rattle.std.specs.Prelude.{string_bytes, ◌==◌, not, length, IfOk}
use Rattle.std.specs.Global.{Global}
use Rattle.std.specs.Io.KnownBytes.{Appends}
use Rattle.std.specs.declared.alloc.AllocError.{AllocError}
use Rattle.base_io.specs.Whole.{TakesUpTo}
use Rattle.base_io.specs.declared.writing.Wrote.TheVariants as wrote
use Rattle.base_io.specs.declared.writing.Wrote.{Wrote}
use Rattle.cli_report.specs.Causes.{fault_line}

-- a prefix of a text was told, where what was told is known
abbrev pub IsPrefixTold : (old new : Option (List ℕ)) → List ℕ → Type 0
IsPrefixTold None new text = ⊤
IsPrefixTold (Some told) new text = (rest : List ℕ) × TakesUpTo (Some told) new text rest

-- all of a text was told, or at a fault a prefix of it
abbrev pub TellsText : (old new : Option (List ℕ)) → List ℕ → Wrote → Type 0
TellsText old new text wrote.Done = Appends old new text
TellsText old new text wrote.Fault = IsPrefixTold old new text

-- whether all of a text was told
abbrev pub wrote_of : Bool → Wrote
wrote_of true = wrote.Done
wrote_of false = wrote.Fault

-- a text is told, if it was made; true where all of it was told
abbrev pub TellsMade : (old new : Option (List ℕ)) → Result (String Global) AllocError → Bool → Type 0
TellsMade old new (Ok text) all = TellsText old new (string_bytes text) (wrote_of all)
TellsMade old new (Err fault) all = (new ≡ old) × (all ≡ false)

-- a text was made that isn't empty
abbrev pub asks : Result (String Global) AllocError → Bool
asks (Ok text) = not (length (string_bytes text) == 0)
asks (Err fault) = false

-- the help for words was told, if it was made; true where it isn't empty
pub record TellsHelp (helps : List (String Global) → List ℕ → Type 0) (old new : Option (List ℕ))
    (words : List (String Global)) (asked : Bool) : Type 0 where
  pub made : Result (String Global) AllocError
  pub all : Bool
  pub is_help : IfOk made (λ text. helps words (string_bytes text))
  pub tells : TellsMade old new made all
  pub is : asked ≡ asks made

-- the line of a fault was told, if it was made
pub record TellsLine (old new : Option (List ℕ)) (fault : List ℕ) : Type 0 where
  pub made : Result (String Global) AllocError
  pub all : Bool
  pub is_line : IfOk made (λ text. string_bytes text ≡ fault_line fault)
  pub tells : TellsMade old new made all

-- the steps, and why the run went wrong, unless help was told
unfoldable pub end_text : (is_help : Bool) → (steps fault : List ℕ) → List ℕ
end_text is_help steps fault = if is_help then [] else steps ++ fault_line fault

-- what is told after a run, in order
abbrev pub after_text : (is_help : Bool) → (dropped findings ends steps fault : List ℕ) → List ℕ
after_text is_help dropped findings ends steps fault =
    dropped ++ (findings ++ (ends ++ end_text is_help steps fault))
