-- Why a line isn't read: the first reason that applies.
use Rattle.std.specs.Prelude.{ℕ, zero, suc, List, [], ◌∷◌, length, Option, Some, None, Result, Ok, Err, Bool}
use Rattle.std.specs.Prelude.{true, false, not, ◌&&◌, nat_le, ◌==◌, if◌then◌else◌}
use Rattle.base_text.specs.Lines.{behind_word}
use Rattle.base_text.specs.declared.why.LineWhy.{LineWhy}
use Rattle.base_text.specs.declared.why.LineWhy.TheVariants.{Early, Text, Form, Value as BadValue}

-- ---- text

-- a byte that stands in a word: printable ASCII, and no space
abbrev pub is_plain : ℕ → Bool
is_plain byte = nat_le 33 byte && nat_le byte 126

-- whether bytes go on as a line of words with its ending byte, where `begins` says that a word begins here
abbrev pub goes_on_as_text : (begins : Bool) → List ℕ → Bool
goes_on_as_text begins [] = false
goes_on_as_text begins (b ∷ bs) =
    if b == 10 then not begins else (
    if b == 32 then not begins && goes_on_as_text true bs else
    is_plain b && goes_on_as_text false bs)

-- whether bytes begin with a line of words and its ending byte
unfoldable pub is_text : List ℕ → Bool
is_text bytes = goes_on_as_text true bytes

-- ---- words

-- the words behind spaces up to the end of the line
abbrev pub words_left : List ℕ → ℕ
words_left [] = 0
words_left (b ∷ bs) = if b == 10 then 0 else (if b == 32 then suc (words_left bs) else words_left bs)

-- the bytes after a space and a word
abbrev pub after_word : List ℕ → List ℕ
after_word [] = []
after_word (b ∷ bs) = if b == 32 then behind_word bs else []

-- the bytes after a number of them
abbrev pub after_words : ℕ → List ℕ → List ℕ
after_words zero bytes = bytes
after_words (suc n) bytes = after_words n (after_word bytes)

-- ---- the first reason

-- why bytes aren't read, where it is known whether they have a form
abbrev pub why_of : (form : Bool) → List ℕ → LineWhy
why_of form bytes = if length bytes == 0 then Early else (if is_text bytes then
    (if form then BadValue else Form) else Text)

-- why bytes aren't read, where form tests their line
abbrev pub reason : (form : List ℕ → Bool) → List ℕ → LineWhy
reason form bytes = why_of (form bytes) bytes

-- what was found, or why it wasn't
abbrev pub found_or_why : {A : Type 0} → LineWhy → Option A → Result A LineWhy
found_or_why why None = Err why
found_or_why why (Some x) = Ok x
