use Rattle.std.proofs.Common.{◌≡◌, ℕ, List, [], ◌∷◌, ◌++◌, map, refl, append_assoc, Bor}
use Rattle.std.specs.List.{flat_map}
use Rattle.base_text.specs.LineTexts.{spaced_word, line_text}
use Rattle.base_io.proofs.Outboxes.{nothing_yet, past_done, past_fault, past_last}
use Rattle.base_text.proofs.line_writer.write_line.Goals as goal

-- the first word, the others, and byte 10
parts : (first : List ℕ) (others : List (Bor (List ℕ)))
    → line_text (first ∷ map (λ w. w.now) others) ≡ first ++ (flat_map spaced_word (map (λ w. w.now) others) ++ 10 ∷ [])
parts first others = append_assoc first (flat_map spaced_word (map (λ w. w.now) others)) (10 ∷ [])

pub returns-in-Fault : goal.returns-in-Fault
returns-in-Fault g c =
    past_fault _ _ _ _ _ _ _ (parts c.args.first.now c.args.others.now) (nothing_yet _ _) c.in-Fault.ensures

pub returns-in-Fault-write_spaced : goal.returns-in-Fault-write_spaced
returns-in-Fault-write_spaced g c =
    past_fault _ _ _ _ _ _ _ refl
    (past_done _ _ _ _ _ _ _ (parts c.args.first.now c.args.others.now) (nothing_yet _ _)
    c.in_default.ensures) c.in-Fault-write_spaced.ensures

pub returns : goal.returns
returns g c =
    past_last _ _ _ _ _ _
    (past_done _ _ _ _ _ _ _ refl
    (past_done _ _ _ _ _ _ _ (parts c.args.first.now c.args.others.now) (nothing_yet _ _)
    c.in_default.ensures) c.in_default-write_spaced.ensures) c.write_all-2.ensures
