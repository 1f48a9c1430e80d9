-- What a log of violations is, as a value.
use Rattle.std.specs.Prelude.{ℕ, ◌+◌, ◌-◌, ◌^◌, List, [], ◌∷◌, ◌++◌, drop, length, min, Option, None, nat_lt, slice_get}
use Rattle.std.specs.Prelude.{if◌then◌else◌}
use Rattle.part_handlers.specs.declared.rules.Violation.{Violation}

-- the last n of a list
abbrev pub keep_last : {Item : Type 0} → ℕ → List Item → List Item
keep_last n items = drop (length items - n) items

-- how many violations were noted, at most the greatest u64, and the newest of them, oldest first
pub record LogRecord : Type 0 where
  pub count : ℕ
  pub newest : List Violation

-- the log of all these violations, oldest first: their count, and the last 64
abbrev pub log_of : List Violation → LogRecord
log_of violations = record { count = min (length violations) (2 ^ 64 - 1); newest = keep_last 64 violations }

-- the log after one more violation
abbrev pub with_violation : LogRecord → Violation → LogRecord
with_violation log violation = record {
  count = min (log.count + 1) (2 ^ 64 - 1);
  newest = keep_last 64
      (log.newest ++ violation ∷ []);
}

-- the log after more violations, in order
abbrev pub notes : LogRecord → List Violation → LogRecord
notes log [] = log
notes log (violation ∷ rest) = notes (with_violation log violation) rest

-- the i-th of a list from its end, from 0
abbrev pub from_end : List Violation → ℕ → Option Violation
from_end violations i = if nat_lt i (length violations) then slice_get violations (length violations - i - 1) else None
