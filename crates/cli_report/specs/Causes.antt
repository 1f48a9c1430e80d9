-- Why a run went wrong, as a person is told.
use Rattle.std.specs.Prelude.{◌≡◌, ◌⊎◌, ℕ, ℤ, Option, Some, None, ◌==◌, List, [], ◌++◌, length, if◌then◌else◌, codes}
use Rattle.std.specs.Prelude.{String}
use Rattle.std.specs.Global.{Global}
use Rattle.std.specs.Bool.{MatchBool}
use Rattle.cli_report.specs.Status.{IsLastLine, line_status}
use Rattle.cli_report.specs.declared.command.Command.{Command}
use Rattle.cli_report.specs.declared.texts.Texts.{Ghosts as Texts}

-- what failed, and the system's text of its error, where it has one
abbrev pub IsCaused : (what : List ℕ) → Option ℤ → (text : List ℕ) → Type 0
IsCaused what None text = text ≡ what
IsCaused what (Some code) text = (error : List ℕ) × (text ≡ what ++ (codes ": " ++ error))

-- why a job's text is refused, by a line and a reason; nothing where the status line has none
pub record IsBadJob {T : Type 0} (texts : Texts T) (job text : List ℕ) : Type 0 where
  pub is : ((line : ℕ) × (reason : List ℕ) × texts.refuses_job job line reason text) ⊎ (text ≡ [])

-- why words are those of no command; where there is nothing to tell of them, why the job has no place for them
pub record IsUseFault {T : Type 0} (texts : Texts T) (words : List (String Global)) (job text : List ℕ) : Type 0 where
  pub usage : List ℕ
  pub is_usage : texts.refuses_words words usage
  pub is : MatchBool (length usage == 0) (texts.refuses_place words job text) (text ≡ usage)

-- what is told of a status by itself; empty where that is nothing
unfoldable pub sentence : ℕ → List ℕ
sentence status =
    if status == 8 then codes "memory ran out"
    else if status == 9 then codes "a script still waits, after so many quiet turns as the job's patience"
    else if status == 10 then codes "there were more turns than are kept"
    else []

-- why a run went wrong, by the status that its last line tells
abbrev pub IsFaultAt : {T : Type 0} → Texts T → Command → (link start : List ℕ) → Option ℕ → (text : List ℕ) → Type 0
IsFaultAt texts command link start None text = text ≡ []
IsFaultAt texts command link start (Some status) text =
    MatchBool (status == 2) (IsUseFault texts command.words.items command.input.bytes.items text)
    (MatchBool (status == 3) (IsBadJob texts command.input.bytes.items text)
    (MatchBool (status == 4) (IsCaused (codes "standard input can't be read") command.input.fault text)
    (MatchBool (status == 6) (text ≡ link) (MatchBool (status == 7) (text ≡ start) (text ≡ sentence status)))))

-- why a run went wrong
pub record IsFaultOf {T : Type 0} (texts : Texts T) (command : Command) (link start text : List ℕ) : Type 0 where
  pub line : List ℕ
  pub is_last : IsLastLine command.output.bytes.items line
  pub is : MatchBool command.output.failed
      (IsCaused (codes "standard output can't be written") command.output.fault text)
      (IsFaultAt texts command link start (line_status line) text)

-- the line of such a text; none where that is empty
abbrev pub fault_line : List ℕ → List ℕ
fault_line fault = if length fault == 0 then [] else codes "gasnet_cli: " ++ (fault ++ codes "\n")
