-- The one text of a trace.
use Rattle.std.specs.Prelude.{ℕ, ◌<◌, ◌≤◌, ◌^◌, List, [], ◌∷◌, ◌++◌, length, map, Option, Some, None}
use Rattle.std.specs.Prelude.{codes, decimal}
use Rattle.std.specs.List.{AllByRecursion}
use Rattle.std.specs.Option.{ForSome}
use Rattle.base_turns.specs.declared.entry.Entry.{Entry}
use Rattle.text_trace.specs.declared.trace.Trace.{Trace}
use Rattle.base_text.specs.HexBytes.{bytes_word}
use Rattle.base_text.specs.Lines.{Word}
use Rattle.base_text.specs.LineTexts.{Line, spell}
use Rattle.text_trace.specs.declared.words.TheConstants.{MAX_GOT}

-- the word of what a turn got: `-`, or that of bytes
abbrev pub got_word : Option (List ℕ) → Word
got_word None = codes "-"
got_word (Some bytes) = bytes_word bytes

-- the line of an entry
abbrev pub entry_line : Entry → Line
entry_line entry = codes "turn" ∷ decimal entry.thread ∷ decimal entry.now ∷ got_word entry.got ∷ []

-- the line `end`
abbrev pub end_line : Line
end_line = codes "end" ∷ []

-- the line of a name and a number
abbrev pub line_of_number : Word → ℕ → Line
line_of_number name number = name ∷ decimal number ∷ []

-- the lines of entries, and the line `end`
abbrev pub entry_lines : List Entry → List Line
entry_lines entries = map entry_line entries ++ end_line ∷ []

-- the lines of a trace in a version of the text
abbrev pub trace_lines : (version : ℕ) → Trace → List Line
trace_lines version trace =
    line_of_number (codes "trace") version
    ∷ line_of_number (codes "job") trace.job
    ∷ line_of_number (codes "rank") trace.rank
    ∷ entry_lines trace.entries

-- the lines of a trace before its entries
abbrev pub head_lines : (version job rank : ℕ) → List Line
head_lines version job rank =
    line_of_number (codes "trace") version ∷ line_of_number (codes "job") job ∷ line_of_number (codes "rank") rank ∷ []

-- their text
abbrev pub head_text : (version job rank : ℕ) → List ℕ
head_text version job rank = spell (head_lines version job rank)

-- the text of a trace
abbrev pub trace_text : (version : ℕ) → Trace → List ℕ
trace_text version trace = spell (trace_lines version trace)

-- an entry of a machine with so many threads, which got at most `MAX_GOT` bytes
pub record IsEntry (threads : ℕ) (entry : Entry) : Type 0 where
  pub thread : entry.thread < threads
  pub narrow : entry.thread < 2 ^ 16
  pub now : entry.now < 2 ^ 64
  pub got : ForSome entry.got (λ bytes. (length bytes ≤ MAX_GOT) × AllByRecursion (λ byte. byte < 256) bytes)

-- a trace of such entries
pub record IsTrace (threads : ℕ) (trace : Trace) : Type 0 where
  pub job : trace.job < 2 ^ 64
  pub rank : trace.rank < 2 ^ 16
  pub entries : AllByRecursion (IsEntry threads) trace.entries
