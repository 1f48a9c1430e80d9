-- The last line of what a command wrote, and what it says.
use Rattle.std.specs.Prelude.{◌≡◌, ◌≢◌, ℕ, ◌+◌, ◌-◌, ◌<◌, ◌≤◌, ◌==◌, ◌||◌, nat_lt, List, [], ◌∷◌, length, take, drop}
use Rattle.std.specs.Prelude.{slice_index, Bool, false}
use Rattle.std.specs.Prelude.{if◌then◌else◌, Option, Some, None, codes, nat_eq}
use Rattle.std.specs.List.{starts_with}
use Rattle.cli_report.specs.declared.status.Ending.{Ending}
use Rattle.cli_report.specs.declared.status.Ending.TheVariants as endings

-- from here on there are bytes 10 alone, and the one before is none
pub record IsEnd (bytes : List ℕ) (end : ℕ) : Type 0 where
  pub within : end ≤ length bytes
  pub behind : (k : ℕ) → end ≤ k → k < length bytes → slice_index bytes k ≡ 10
  pub before : 0 < end → slice_index bytes (end - 1) ≢ 10

-- from here on there is no byte 10, and the one before is one
pub record IsStart (bytes : List ℕ) (start : ℕ) : Type 0 where
  pub within : start ≤ length bytes
  pub behind : (k : ℕ) → start ≤ k → k < length bytes → slice_index bytes k ≢ 10
  pub before : 0 < start → slice_index bytes (start - 1) ≡ 10

-- the last line that isn't empty, without the byte that ends it
pub record IsLastLine (bytes line : List ℕ) : Type 0 where
  pub end : ℕ
  pub start : ℕ
  pub ends : IsEnd bytes end
  pub starts : IsStart (take end bytes) start
  pub is : line ≡ drop start (take end bytes)

-- the number that a digit makes behind so many tens
abbrev pub digit : (tens byte : ℕ) → Option ℕ
digit tens byte = if nat_lt byte 48 || nat_lt 57 byte then None else Some (tens + (byte - 48))

-- the number at the beginning of a text: a digit before a space, or a 1 and a digit
abbrev pub status_number : List ℕ → Option ℕ
status_number [] = None
status_number (first ∷ []) = None
status_number (first ∷ (second ∷ behind)) =
    if second == 32 then digit 0 first else if first == 49 then digit 10 second else None

-- the status that a line tells, which none but a status line does
unfoldable pub line_status : List ℕ → Option ℕ
line_status line = if starts_with nat_eq line (codes "status ") then status_number (drop 7 line) else None

-- how a run with this status ended
abbrev pub ending_of : Option ℕ → Option Ending
ending_of (Some status) =
    if status == 0 || status == 1 then Some endings.Run
    else if status == 11 then Some endings.NoRun
    else if status == 7 || status == 12 then Some endings.Failed
    else None
ending_of None = None

-- words or a job are refused with this status
abbrev pub is_refusal : Option ℕ → Bool
is_refusal (Some status) = status == 2 || status == 3
is_refusal None = false
