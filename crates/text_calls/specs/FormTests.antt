-- Whether bytes have the words of a form, whatever these say.
use Rattle.std.specs.Prelude.{ℕ, ◌+◌, ◌-◌, ◌*◌, ◌%◌, List, [], ◌∷◌, length, Option, Some, None}
use Rattle.std.specs.Prelude.{Bool, false, ◌&&◌, nat_le, ◌==◌, if◌then◌else◌}
use Rattle.std.specs.Str.{bytes_eq}
use Rattle.base_text.specs.Lines.{Word, first_word, behind_word, after_space}
use Rattle.base_text.specs.Reasons.{words_left, after_words}
use Rattle.text_calls.specs.Forms.{Shape, End, ◌▸◌, Many, Any, Bundles, Split, Inner, Row, Number, parts_of}
use Rattle.text_calls.specs.Forms.{part_at}

-- a test of the bytes behind a space
abbrev pub behind : (List ℕ → Bool) → Option (List ℕ) → Bool
behind form None = false
behind form (Some rest) = form rest

-- whether so many words are those of bundles of a size behind others
abbrev pub are_bundles : (before least most size words : ℕ) → Bool
are_bundles before least most size words =
    (nat_le (before + least * size) words && nat_le words (before + most * size))
    && ((words - before) % size == 0)

-- so many words behind others, of which the first, where it says one, says how many bundles come first: then whether
-- others come behind these, 1 to so many, and else whether some count fits
abbrev pub are_split : (before most size words : ℕ) → Option (ℕ × List ℕ) → Bool
are_split before most size words (Some count) =
    are_bundles (before + 1 + count.0 * size) 1 most size words
are_split before most size words None = are_bundles (before + 1) 2 (2 * most) size words

-- whether the bytes have the words of a shape, of which n came before, where form tests a line of the other table
abbrev pub shape_form : (form : List ℕ → Bool) → (n : ℕ) → Shape → List ℕ → Bool
shape_form form n End bytes = words_left bytes == n
shape_form form n (p ▸ s) bytes = shape_form form (n + 1) s bytes
shape_form form n (Many least most p) bytes = nat_le (n + least) (words_left bytes) && nat_le (words_left bytes)
    (n + most)
shape_form form n (Any p) bytes = nat_le n (words_left bytes)
shape_form form n (Bundles least most b) bytes =
    are_bundles n least most (length (parts_of b)) (words_left bytes)
shape_form form n (Split most b) bytes =
    are_split n most (length (parts_of b)) (words_left bytes) (part_at (Number 1 most) (after_words n bytes))
shape_form form n Inner bytes = behind form (after_space (after_words n bytes))

-- whether a row has this name, and the bytes after it have the words of its shape
abbrev pub named_form : {X A : Type 0} → (form : List ℕ → Bool) → List (Row X A) → (name : Word) → List ℕ → Bool
named_form form [] name bytes = false
named_form form (row ∷ rows) name bytes = if bytes_eq name row.name then shape_form form 0 row.shape bytes else
    named_form form rows name bytes

-- whether bytes have a form of the table
abbrev pub table_form : {X A : Type 0} → (form : List ℕ → Bool) → List (Row X A) → List ℕ → Bool
table_form form rows bytes = named_form form rows (first_word bytes) (behind_word bytes)
