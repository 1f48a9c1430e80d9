-- A line is words, with one space between each two, and byte 10.
use Rattle.std.specs.Prelude.{ℕ, List, [], ◌∷◌, Bool, false, ◌&&◌, ◌||◌, nat_lt, ◌==◌, if◌then◌else◌, Option, Some, None}

-- the bytes of a word
abbrev pub Word : Type 0
Word = List ℕ

-- what was found, read on
infixl 10 ◌>>=◌
abbrev pub ◌>>=◌ : {A B : Type 0} → Option A → (A → Option B) → Option B
None >>= f = None
(Some x) >>= f = f x

-- what was found, or else another
infixl 5 ◌<|>◌
abbrev pub ◌<|>◌ : {A : Type 0} → Option A → Option A → Option A
None <|> other = other
(Some x) <|> other = Some x

-- a byte at which a word ends
abbrev pub is_stop : ℕ → Bool
is_stop b = (b == 32) || (b == 10)

-- the bytes up to the end of the first word
abbrev pub first_word : List ℕ → Word
first_word [] = []
first_word (b ∷ bs) = if is_stop b then [] else b ∷ first_word bs

-- the bytes from there on
abbrev pub behind_word : List ℕ → List ℕ
behind_word [] = []
behind_word (b ∷ bs) = if is_stop b then b ∷ bs else behind_word bs

-- the bytes after a space
abbrev pub after_space : List ℕ → Option (List ℕ)
after_space [] = None
after_space (b ∷ bs) = if b == 32 then Some bs else None

-- the bytes after the end of the line
abbrev pub after_newline : List ℕ → Option (List ℕ)
after_newline [] = None
after_newline (b ∷ bs) = if b == 10 then Some bs else None

-- whether a space comes next
abbrev pub has_space : List ℕ → Bool
has_space [] = false
has_space (b ∷ bs) = b == 32

-- whether another word of a list follows
abbrev pub has_more : (count most : ℕ) → List ℕ → Bool
has_more count most bytes = nat_lt count most && has_space bytes
