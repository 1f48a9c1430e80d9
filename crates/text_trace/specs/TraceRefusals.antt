-- Which lines may stand where in a trace, so that a refusal of one has its meaning.
use Rattle.std.specs.Prelude.{◌≡◌, ◌⊎◌, ℕ, ◌<◌, ◌^◌, List, [], ◌∷◌, codes}
use Rattle.base_turns.specs.declared.entry.Entry.{Entry}
use Rattle.base_text.specs.Lines.{Word}
use Rattle.base_text.specs.LineTexts.{Line}
use Rattle.text_trace.specs.TraceText.{IsEntry, end_line, entry_line, line_of_number}

-- what line comes next
pub data TracePlace : Type 0 where
  AtVersion : TracePlace
  AtJob : TracePlace
  AtRank : TracePlace
  AtEntries : TracePlace  -- an entry, or the line `end`

-- behind these lines
abbrev pub place_behind : List Line → TracePlace
place_behind [] = AtVersion
place_behind (first ∷ []) = AtJob
place_behind (first ∷ second ∷ []) = AtRank
place_behind (first ∷ second ∷ third ∷ entries) = AtEntries

-- the words are this name and another word
abbrev pub IsNamed : (name : Word) → Line → Type 0
IsNamed name words = (value : Word) × (words ≡ name ∷ value ∷ [])

-- the words are `turn` and three others
pub record IsTurn (words : Line) : Type 0 where
  pub thread : Word
  pub time : Word
  pub got : Word
  pub is : words ≡ codes "turn" ∷ thread ∷ time ∷ got ∷ []

-- the line has the form of its place
abbrev pub HasForm : TracePlace → Line → Type 0
HasForm AtVersion words = IsNamed (codes "trace") words
HasForm AtJob words = IsNamed (codes "job") words
HasForm AtRank words = IsNamed (codes "rank") words
HasForm AtEntries words = (words ≡ end_line) ⊎ IsTurn words

-- a trace of this version, and of so many threads, may have such a line there
abbrev pub MayStand : (version threads : ℕ) → TracePlace → Line → Type 0
MayStand version threads AtVersion words = words ≡ line_of_number (codes "trace") version
MayStand version threads AtJob words = (job : ℕ) × ((job < 2 ^ 64) × (words ≡ line_of_number (codes "job") job))
MayStand version threads AtRank words = (rank : ℕ) × ((rank < 2 ^ 16) × (words ≡ line_of_number (codes "rank") rank))
MayStand version threads AtEntries words =
    (words ≡ end_line) ⊎ ((entry : Entry) × (IsEntry threads entry × (words ≡ entry_line entry)))
