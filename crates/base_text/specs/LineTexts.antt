-- The texts of words, lines and numbers: what is written.
use Rattle.std.specs.Prelude.{ℕ, ◌<◌, List, [], ◌∷◌, ◌++◌, length}
use Rattle.std.specs.List.{flat_map, AllByRecursion}
use Rattle.base_text.specs.Lines.{Word}

-- the words of a line
abbrev pub Line : Type 0
Line = List Word

-- a space and a word
abbrev pub spaced_word : Word → List ℕ
spaced_word word = 32 ∷ word

-- words with one space between each two
abbrev pub text_of_words : Line → List ℕ
text_of_words [] = []
text_of_words (word ∷ words) = word ++ flat_map spaced_word words

-- the words of a line with one space between each two, and byte 10
abbrev pub line_text : Line → List ℕ
line_text words = text_of_words words ++ 10 ∷ []

-- what stands behind the first word of a line: the other words with a space before each, and byte 10
abbrev pub ending : Line → List ℕ
ending [] = 10 ∷ []
ending (word ∷ words) = spaced_word word ++ ending words

-- lines, one after the other
abbrev pub spell : List Line → List ℕ
spell lines = flat_map line_text lines

-- a byte that stands in a word: printable ASCII, and no space
abbrev pub IsPlain : ℕ → Type 0
IsPlain byte = (32 < byte) × (byte < 127)

-- such bytes, at least one
pub record IsWord (word : Word) : Type 0 where
  pub some : 0 < length word
  pub plain : AllByRecursion IsPlain word

-- words, at least one
abbrev pub IsLine : Line → Type 0
IsLine [] = ⊥
IsLine (word ∷ words) = IsWord word × AllByRecursion IsWord words
