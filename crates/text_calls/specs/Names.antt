-- What a line names by one word.
use Rattle.std.specs.Prelude.{ℕ, List, [], ◌∷◌, Option, None, Some, if◌then◌else◌}
use Rattle.std.specs.Str.{bytes_eq}
use Rattle.base_text.specs.Lines.{Word, ◌>>=◌, first_word, behind_word, after_space}

-- the first of them that has this name
abbrev pub first_named : {F : Type 0} → (name_of : F → Word) → List F → Word → Option F
first_named name_of [] name = None
first_named name_of (one ∷ all) name =
    if bytes_eq name (name_of one) then Some one else first_named name_of all name

-- the one that the word behind a space names, and the bytes after that
abbrev pub named_at : {F : Type 0} → (name_of : F → Word) → List F → List ℕ → Option (F × List ℕ)
named_at name_of all bytes =
    after_space bytes >>= λ rest. first_named name_of all (first_word rest) >>= λ x. Some (x, behind_word rest)
