-- Counts of answers, one after the other.
use Rattle.std.proofs.Common.{◌≡◌, ◌≢◌, ℕ, ◌+◌, ◌<◌, ◌==◌, Bool, true, false, cond, List, [], ◌∷◌, ◌++◌, length, get_or}
use Rattle.std.proofs.Common.{Some, None}
use Rattle.std.proofs.Common.{refl, sym, ap, subst, ◌∙◌, add_assoc, arith, ◌⊎◌, inl, inr}
use Rattle.std.proofs.Math.ListN.{set}
use Rattle.std.proofs.lemmas.Bool.Decides.{eqb_tells}
use Rattle.std.proofs.lemmas.Grind.{get_or-set_at}
use Rattle.std.proofs.lemmas.List.{get_or-set_other}
use Rattle.std.proofs.lemmas.List.Sums.{sum_by-append}
use Rattle.base_text.specs.LineTexts.{Line}
use Rattle.sim_drill.specs.Counting.{Tallies, count_in, is_counted, count_place}
use Rattle.sim_drill.specs.Summary.{begins_with, count_of, counted_word}
use Rattle.sim_drill.specs.declared.counts.Counted.{Counted}
use Rattle.sim_drill.proofs.CountedWords.{AreCountedAs}

-- no answer is counted
pub tallies_none : (counts : List ℕ) → Tallies counts counts []
tallies_none counts word = omega arith

-- answers, and then others
pub tallies_both : (old mid new : List ℕ) (xs ys : List Line) → Tallies old mid xs → Tallies mid new ys
    → Tallies old new (xs ++ ys)
tallies_both old mid new xs ys h k word =
    k word
    ∙ (ap (λ n. n + count_of word ys) (h word)
    ∙ (add_assoc (count_in old word) (count_of word xs) (count_of word ys)
    ∙ ap (λ n. count_in old word + n) (sym (sum_by-append _ xs ys))))

-- the count of one answer
count_of_one : (counts : List ℕ) (words : Line) (word : Counted) (test : Bool)
    → begins_with (counted_word word) words ≡ test
    → count_in counts word + count_of word (words ∷ []) ≡ count_in counts word + cond test 1 0
count_of_one counts words word test is = ap (λ (b : Bool). count_in counts word + (0 + cond b 1 0)) is ∙ omega arith

-- an answer whose first word isn't counted
pub tallies_other : (counts : List ℕ) (words : Line) → AreCountedAs words None → Tallies counts counts (words ∷ [])
tallies_other counts words told word = sym (count_of_one counts words word false (told word) ∙ omega arith)

-- one whose first word is
pub tallies_one : (counts : List ℕ) (words : Line) (counted : Counted) → count_place counted < length counts
    → AreCountedAs words (Some counted)
    → Tallies counts (set counts (count_place counted) (count_in counts counted + 1)) (words ∷ [])
tallies_one counts words counted there told word = elim (eqb_tells (count_place word) (count_place counted)) [
  | inl same ↦
      get_or-set_at counts (count_place counted) (count_place word) (count_in counts counted + 1) 0 same.1 there
      ∙ (ap (λ place. get_or counts place 0 + 1) (sym same.1)
      ∙ sym (count_of_one counts words word true (told word ∙ same.0)))
  | inr other ↦
      get_or-set_other counts (count_place counted) (count_place word) (count_in counts counted + 1) 0 other.1
      ∙ sym (count_of_one counts words word false (told word ∙ other.0) ∙ omega arith)
]
