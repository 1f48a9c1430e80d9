-- The number that a whole word is.
use Rattle.std.proofs.Common.{◌≡◌, ℕ, ◌<◌, ◌^◌, List, [], ◌++◌, length, Option, Some, None, refl, ap, sym, ◌∙◌}
use Rattle.std.proofs.Common.{decimal, append-nil}
use Rattle.std.proofs.lemmas.List.{nil_from_length}
use Rattle.base_text.specs.Lines.{◌>>=◌, first_word, behind_word}
use Rattle.base_text.specs.Words.{number_of, number_read}
use Rattle.base_text.proofs.Decimals.{number_of-decimal, no_number}
use Rattle.base_text.proofs.WordRuns.{decimal_run}
use Rattle.base_text.proofs.Seams.{whole, prefix_seam, back_seam}

-- what was read and the bytes after it
parts : (found : Option ℕ) (behind rest : List ℕ) (number : ℕ) → ◌>>=◌ {B = ℕ × List ℕ} found (λ n. Some (n, behind))
    ≡ Some (number, rest) → (found ≡ Some number) × (behind ≡ rest)
parts None behind rest number read = absurd (cc)
parts (Some one) behind rest number read =
    let same : ◌≡◌ {A = ℕ × List ℕ} (one, behind) (number, rest) = cc in
    (ap (λ (pair : ℕ × List ℕ). Some pair.0) same, ap (λ (pair : ℕ × List ℕ). pair.1) same)

-- a number's text is its prefix, and nothing is behind it
prefix_decimal : (number : ℕ) → number < 2 ^ 64 → first_word (decimal number) ≡ decimal number
prefix_decimal number fits =
    ap first_word (sym (append-nil (decimal number))) ∙ prefix_seam (decimal number) [] (decimal_run number fits) refl

back_decimal : (number : ℕ) → number < 2 ^ 64 → behind_word (decimal number) ≡ []
back_decimal number fits =
    ap behind_word (sym (append-nil (decimal number))) ∙ back_seam (decimal number) [] (decimal_run number fits) refl

-- what is none isn't some
none_some : {A : Type 0} (option : Option A) (value : A) → option ≡ None → option ≡ Some value → ⊥
none_some None value none some = absurd (cc)
none_some (Some other) value none some = absurd (cc)

-- a number to the end of the word
pub whole_some : (word rest : List ℕ) (number : ℕ) → number_read word ≡ Some (number, rest) → length rest ≡ 0
    → number_of word ≡ Some number
unfolding number_read
whole_some word rest number read none =
    let both = parts (number_of (first_word word)) (behind_word word) rest number read in
    let behind : behind_word word ≡ [] = both.1 ∙ nil_from_length rest none in
    let same : word ≡ first_word word = whole word ∙ ap (λ (bytes : List ℕ). first_word word ++ bytes) behind
    ∙ append-nil (first_word word) in
    ap number_of same ∙ both.0

-- bytes after a number
pub whole_rest : (word rest : List ℕ) (number : ℕ) → number_read word ≡ Some (number, rest) → (length rest ≡ 0 → ⊥)
    → number_of word ≡ None
unfolding number_read
whole_rest word rest number read some = no_number word (λ other fits same.
    let both = parts (number_of (first_word word)) (behind_word word) rest number read in
    some (ap length (sym both.1 ∙ ap behind_word same ∙ back_decimal other fits)))

-- no number
pub whole_none : (word : List ℕ) → number_read word ≡ None → number_of word ≡ None
unfolding number_read
whole_none word none = no_number word (λ other fits same.
    none_some (number_read word) (other, behind_word word) none
    (rw (ap first_word same ∙ prefix_decimal other fits, number_of-decimal other fits) refl))
