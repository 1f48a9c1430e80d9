use Rattle.std.proofs.Common.{◌≡◌, ℕ, ◌+◌, ◌<◌, List, [], ◌∷◌, ◌++◌, length, map, drop, get_or, refl, ap, Bor}
use Rattle.std.specs.List.{flat_map}
use Rattle.std.proofs.lemmas.List.{drop_more}
use Rattle.base_text.specs.LineTexts.{spaced_word}
use Rattle.base_io.proofs.Outboxes.{past_done, past_fault}
use Rattle.base_text.proofs.line_writer.write_spaced.Goals as goal

-- what is left begins with a space and the next word
next_word : (words : List (Bor (List ℕ))) (i : ℕ) (d : Bor (List ℕ)) → i < length words
    → flat_map spaced_word (map (λ w. w.now) (drop i words))
    ≡ (32 ∷ []) ++ ((get_or words i d).now ++ flat_map spaced_word (map (λ w. w.now) (drop (i + 1) words)))
next_word words i d h = ap (λ xs. flat_map spaced_word (map (λ w. w.now) xs)) (drop_more words i d h)

pub returns-in-Fault : goal.returns-in-Fault
returns-in-Fault g c =
    past_fault _ _ _ _ _ _ _
    (next_word c.args.words.now c.loop-word.word-index (record { ref_ptr = (0, 0); now = [] })
    c.loop-word-test.true) c.loop-word.invariant.taken c.in-Fault.ensures

pub returns-in-Fault-write_all : goal.returns-in-Fault-write_all
returns-in-Fault-write_all g c =
    past_fault _ _ _ _ _ _ _ refl
    (past_done _ _ _ _ _ _ _ (next_word c.args.words.now c.loop-word.word-index _ c.loop-word-test.true)
    c.loop-word.invariant.taken c.in_default.ensures) c.in-Fault-write_all.ensures

pub loop-word-preserved : goal.loop-word-preserved
loop-word-preserved g c = record {
  taken = past_done _ _ _ _ _ _ _ refl
      (past_done _ _ _ _ _ _ _ (next_word c.args.words.now c.loop-word.word-index _ c.loop-word-test.true)
      c.loop-word.invariant.taken c.in_default.ensures) c.in_default-write_all.ensures;
}
