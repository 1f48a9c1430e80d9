-- Reading a trace line by line: the first bad line, and the first reason that applies to it.
use Rattle.std.specs.Prelude.{ℕ, zero, suc, ◌+◌, ◌-◌, ◌^◌, List, [], ◌∷◌, ◌++◌, length, drop, slice_index, Option}
use Rattle.std.specs.Prelude.{Some, None, Result, Ok, Err, Bool, true, false, ◌&&◌, nat_lt, nat_le, ◌==◌}
use Rattle.std.specs.Prelude.{if◌then◌else◌, codes, is_none, option_to_list}
use Rattle.std.specs.List.{slice_split, before_first, after_first}
use Rattle.std.specs.Str.{bytes_eq}
use Rattle.base_turns.specs.declared.entry.Entry.{Entry}
use Rattle.base_text.specs.declared.why.LineWhy.{LineWhy}
use Rattle.base_text.specs.declared.why.LineWhy.TheVariants.{Text, Form, Value, Early}
use Rattle.base_text.specs.Chains.{◌>>=◌}
use Rattle.base_text.specs.HexBytes.{pairs_of}
use Rattle.base_text.specs.Lines.{Word}
use Rattle.base_text.specs.Reasons.{is_text}
use Rattle.base_text.specs.Words.{number_of}
use Rattle.base_text.specs.LineTexts.{Line}
use Rattle.text_trace.specs.declared.words.TheConstants.{MAX_GOT}

-- a bad line, counted from 1, and the first reason that applies to it
pub record BadLine : Type 0 where
  pub line : ℕ
  pub why : LineWhy

-- a reason, told of a line
abbrev pub at_line : {A : Type 0} → (line : ℕ) → Result A LineWhy → Result A BadLine
at_line line (Ok value) = Ok value
at_line line (Err why) = Err (record { line = line; why = why })

-- ---- lines

-- the parts between spaces
abbrev pub words_of : List ℕ → Line
words_of line = slice_split (λ byte. byte == 32) line

-- the first line, and the bytes after it; a line has words alone, and its ending byte
unfoldable pub line_at : List ℕ → Result (List ℕ × List ℕ) LineWhy
line_at bytes =
    if length bytes == 0 then Err Early else
    (if is_text bytes
    then Ok (before_first (λ byte. byte == 10) bytes, after_first (λ byte. byte == 10) bytes) else Err Text)

-- the line of this number, read by f as its words say
abbrev pub read_line : {A : Type 0} → (line : ℕ) → (Line → Result A LineWhy) → List ℕ → Result (A × List ℕ) BadLine
read_line line says bytes = at_line line (line_at bytes >>= λ cut. says (words_of cut.0) >>= λ value. Ok (value, cut.1))

-- ---- words

-- a number of a range
abbrev pub within : (low high : ℕ) → Option ℕ → Result ℕ LineWhy
within low high None = Err Value
within low high (Some n) = if nat_le low n && nat_le n high then Ok n else Err Value

-- a word that is a number of the range
unfoldable pub number_between : (low high : ℕ) → Word → Result ℕ LineWhy
number_between low high word = within low high (number_of word)

-- a word that is the number of one of so many threads
unfoldable pub thread_of : (threads : ℕ) → Word → Result ℕ LineWhy
thread_of threads word = number_between 0 65535 word >>= λ n. if nat_lt n threads then Ok n else Err Value

-- at most `MAX_GOT` bytes
abbrev pub few_got : Option (List ℕ) → Result (List ℕ) LineWhy
few_got None = Err Value
few_got (Some bytes) = if nat_le (length bytes) MAX_GOT then Ok bytes else Err Value

-- the bytes whose digits the word is
unfoldable pub decoded_bytes : Word → Result (List ℕ) LineWhy
decoded_bytes word = few_got (pairs_of word)

-- what a turn got: nothing, or bytes
unfoldable pub got_of : Word → Result (Option (List ℕ)) LineWhy
got_of word =
    if bytes_eq word (codes "-") then Ok None else
    (if slice_index word 0 == 120 then (decoded_bytes (drop 1 word) >>= λ bytes. Ok (Some bytes)) else Err Value)

-- ---- forms

-- whether a line is one word
abbrev pub is_one : Line → Bool
is_one [] = false
is_one (word ∷ []) = true
is_one (word ∷ more ∷ others) = false

-- the second word of a line of a name and another word
unfoldable pub second_of : (name : Word) → Line → Result Word LineWhy
second_of name [] = Err Form
second_of name (word ∷ []) = Err Form
second_of name (word ∷ value ∷ []) = if bytes_eq word name then Ok value else Err Form
second_of name (word ∷ value ∷ more ∷ others) = Err Form

-- a line of a name and a number of the range
unfoldable pub setting_of : (name : Word) → (low high : ℕ) → Line → Result ℕ LineWhy
setting_of name low high words = second_of name words >>= number_between low high

-- whether a line is `end`
unfoldable pub is_end : Line → Bool
is_end [] = false
is_end (word ∷ []) = bytes_eq word (codes "end")
is_end (word ∷ more ∷ others) = false

-- the three words behind `turn`
pub record TurnWords : Type 0 where
  pub thread : Word
  pub time : Word
  pub got : Word

-- the words of a line `turn`
unfoldable pub turn_of : Line → Result TurnWords LineWhy
turn_of [] = Err Form
turn_of (word ∷ []) = Err Form
turn_of (word ∷ thread ∷ []) = Err Form
turn_of (word ∷ thread ∷ now ∷ []) = Err Form
turn_of (word ∷ thread ∷ now ∷ got ∷ []) =
    if bytes_eq word (codes "turn") then Ok (record { thread = thread; time = now; got = got }) else Err Form
turn_of (word ∷ thread ∷ now ∷ got ∷ more ∷ others) = Err Form

-- the entry that they say
unfoldable pub entry_of : (threads : ℕ) → TurnWords → Result Entry LineWhy
entry_of threads words = do
  thread ← thread_of threads words.thread
  now ← number_between 0 (2 ^ 64 - 1) words.time
  got ← got_of words.got
  Ok (record { thread = thread; now = now; got = got })

-- an entry, or none at the line `end`
unfoldable pub entry_or_end : (threads : ℕ) → Line → Result (Option Entry) LineWhy
entry_or_end threads words =
    if is_end words then Ok None else (turn_of words >>= λ turn. entry_of threads turn >>= λ entry. Ok (Some entry))

-- ---- traces

-- what was read before, and what is read on
abbrev pub behind_entries : {A B E : Type 0} → List A → Result (List A × B) E → Result (List A × B) E
behind_entries prefix read = read >>= λ more. Ok (prefix ++ more.0, more.1)

-- the entries from this line on up to the line `end`, and the bytes after it. The room is more than the number of lines
unfoldable pub entries_at : (room threads line : ℕ) → List ℕ → Result (List Entry × List ℕ) BadLine
entries_at zero threads line bytes = Err (record { line = line; why = Early })
entries_at (suc room) threads line bytes =
    read_line line (entry_or_end threads) bytes >>= λ next.
    if is_none next.0 then Ok ([], next.1) else behind_entries (option_to_list next.0) (entries_at room threads (line + 1)
    next.1)
