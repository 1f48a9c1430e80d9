-- Where words end.
use Rattle.std.proofs.Common.{◌≡◌, ℕ, List, [], ◌∷◌, ◌++◌, Bool, true, false, cond, refl, ap, ◌∙◌}
use Rattle.std.proofs.lemmas.Bool.{eqb-true}
use Rattle.base_text.specs.Lines.{is_stop, first_word, behind_word, after_space, after_newline}
use Rattle.base_text.proofs.Prefixes.{cond_yes, cond_no}
use Rattle.base_text.proofs.Takes.{Takes, takes_some, takes_none, takes_if}
use Rattle.base_text.proofs.WordRuns.{IsRun}

-- a word ends here
abbrev pub is_end : List ℕ → Bool
is_end [] = true
is_end (b ∷ bs) = is_stop b

-- the prefix and the back are the whole
pub whole_by : (t : Bool) (b : ℕ) (bs : List ℕ) → bs ≡ first_word bs ++ behind_word bs → ◌≡◌ {A = List ℕ} (b ∷ bs)
    (cond t [] (b ∷ first_word bs) ++ cond t (b ∷ bs) (behind_word bs))
whole_by true b bs e = refl
whole_by false b bs e = ap (λ w. b ∷ w) e

pub whole : (bs : List ℕ) → bs ≡ first_word bs ++ behind_word bs
whole [] = refl
whole (b ∷ bs) = whole_by (is_stop b) b bs (whole bs)

-- a word and what follows it
pub prefix_seam : (w rest : List ℕ) → IsRun w → is_end rest ≡ true → first_word (w ++ rest) ≡ w
prefix_seam [] [] h e = refl
prefix_seam [] (b ∷ bs) h e = cond_yes _ _ _ e
prefix_seam (b ∷ w) rest h e = cond_no _ _ _ h.0 ∙ ap (λ v. b ∷ v) (prefix_seam w rest h.1 e)

pub back_seam : (w rest : List ℕ) → IsRun w → is_end rest ≡ true → behind_word (w ++ rest) ≡ rest
back_seam [] [] h e = refl
back_seam [] (b ∷ bs) h e = cond_yes _ _ _ e
back_seam (b ∷ w) rest h e = cond_no _ _ _ h.0 ∙ back_seam w rest h.1 e

-- a space, and the bytes after it
pub spaced_takes : (bytes : List ℕ) → Takes (λ rest. bytes ≡ 32 ∷ rest) (after_space bytes)
spaced_takes [] = takes_none
spaced_takes (b ∷ bs) = takes_if (λ t. takes_some (ap (λ (c : ℕ). c ∷ bs) (eqb-true b 32 t))) (λ t. takes_none)

-- the end of a line, and the bytes after it
pub ended_takes : (bytes : List ℕ) → Takes (λ rest. bytes ≡ 10 ∷ rest) (after_newline bytes)
ended_takes [] = takes_none
ended_takes (b ∷ bs) = takes_if (λ t. takes_some (ap (λ (c : ℕ). c ∷ bs) (eqb-true b 10 t))) (λ t. takes_none)
