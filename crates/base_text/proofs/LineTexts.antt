-- The text of a line, by its first word and what stands behind it.
use Rattle.std.proofs.Common.{◌≡◌, ◌∙◌, ap, refl, ℕ, List, [], ◌∷◌, ◌++◌, append_assoc}
use Rattle.std.specs.List.{flat_map}
use Rattle.base_text.specs.Lines.{Word}
use Rattle.base_text.specs.LineTexts.{Line, ending, line_text, spaced_word}

-- what stands behind the first word
pub ending_is : (words : Line) → flat_map spaced_word words ++ 10 ∷ [] ≡ ending words
ending_is [] = refl
ending_is (word ∷ words) =
    append_assoc (spaced_word word) (flat_map spaced_word words) (10 ∷ [])
    ∙ ap (λ (text : List ℕ). spaced_word word ++ text) (ending_is words)

-- a line is its first word, and what stands behind it
pub line_parts : (first : Word) (words : Line) → line_text (first ∷ words) ≡ first ++ ending words
line_parts first words =
    append_assoc first (flat_map spaced_word words) (10 ∷ []) ∙ ap (λ (text : List ℕ). first ++ text) (ending_is words)
