-- The words of a command, and what is kept of its run.
use Rattle.std.specs.Prelude.{◌≡◌, ◌⊎◌, ℕ, ◌==◌, ◌&&◌, ◌||◌, not, true, if◌then◌else◌, List, [], ◌∷◌, ◌++◌, length}
use Rattle.std.specs.Prelude.{Bool, Option, Some, None, Result, String, codes, decimal}
use Rattle.std.specs.Prelude.{string_bytes, IfOk}
use Rattle.std.specs.Bool.{MatchBool}
use Rattle.std.specs.Str.{bytes_eq}
use Rattle.std.specs.Global.{Global}
use Rattle.std.specs.declared.alloc.AllocError.{AllocError}
use Rattle.cli_report.specs.Ports.{ports_line}
use Rattle.cli_report.specs.Status.{IsLastLine, is_refusal, line_status}
use Rattle.cli_report.specs.Telling.{TellsMade}
use Rattle.cli_report.specs.declared.command.Command.{Command}
use Rattle.cli_report.specs.declared.command.CommandKind.{CommandKind}
use Rattle.cli_report.specs.declared.command.CommandKind.TheVariants as kinds

-- the first word, empty where there is none
abbrev pub name_of : List (String Global) → List ℕ
name_of [] = []
name_of (word ∷ words) = string_bytes word

abbrev pub lacks_port : List (String Global) → Bool
lacks_port words = (length words == 1) && bytes_eq (name_of words) (codes "launch")

abbrev pub is_node : List (String Global) → Bool
is_node words = bytes_eq (name_of words) (codes "node")

-- the command of this name, of those of which more is told
unfoldable pub kind_of : List ℕ → CommandKind
kind_of name =
    if bytes_eq name (codes "check") then kinds.Check
    else if bytes_eq name (codes "launch") then kinds.Launch
    else if bytes_eq name (codes "world") then kinds.World
    else kinds.Other

-- whether what was read is needed to tell of the run of this command, which wrote this line last
abbrev pub needs_input : Bool → CommandKind → (line : List ℕ) → Bool
needs_input steps kinds.Check line = true
needs_input steps kinds.Launch line = true
needs_input steps kinds.World line = steps || is_refusal (line_status line)
needs_input steps kinds.Other line = steps || is_refusal (line_status line)

-- the word of a port stands behind the words, unless memory ran out
abbrev pub HasWord : Option ℕ → (old new : List (String Global)) → Type 0
HasWord None old new = new ≡ old
HasWord (Some port) old new =
    (new ≡ old) ⊎ ((word : String Global) × (string_bytes word ≡ decimal port) × (new ≡ old ++ word ∷ []))

-- the ports of a launch, or that none were free, were told, if there was memory for the text
pub record TellsPorts (old new : Option (List ℕ)) (port : Option ℕ) : Type 0 where
  pub made : Result (String Global) AllocError
  pub all : Bool
  pub is_line : IfOk made (λ text. string_bytes text ≡ ports_line port)
  pub tells : TellsMade old new made all

-- the beginning of the input was read again, where it wasn't kept and is needed to tell of the run
pub record IsReadAgain (again : ℕ → List ℕ → Type 0) (old new : Command) : Type 0 where
  pub line : List ℕ
  pub is_last : IsLastLine old.output.bytes.items line
  pub same : (new.input.keeps ≡ old.input.keeps) × (new.input.fault ≡ old.input.fault)
      × (new.input.failed ≡ old.input.failed)
  pub is : MatchBool (not old.input.keeps && needs_input old.steps (kind_of (name_of old.words.items)) line)
      (again 8388608 new.input.bytes.items) (new.input.bytes ≡ old.input.bytes)
