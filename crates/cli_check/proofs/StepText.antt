-- The line of a step: the rank, a space, and the line of the thread and the answer.
use Rattle.std.proofs.Common.{◌≡◌, ℕ, List, [], ◌∷◌, ◌++◌, append_assoc, sym, subst}
use Rattle.std.specs.List.{flat_map}
use Rattle.base_io.specs.Buffered.{Outbox, Gathers, GathersAll, GathersPrefix}
use Rattle.base_io.specs.declared.writing.Wrote.{Wrote}
use Rattle.base_io.specs.declared.writing.Wrote.TheVariants as wrote
use Rattle.base_io.proofs.Outboxes.{gathers_first, gathers_then}
use Rattle.base_text.specs.Lines.{Word}
use Rattle.base_text.specs.LineTexts.{Line, line_text, spaced_word}

first_word : (first second : Word) (words : Line)
    → line_text (first ∷ second ∷ words) ≡ first ++ ((32 ∷ []) ++ line_text (second ∷ words))
first_word first second words = append_assoc first (32 ∷ (second ++ flat_map spaced_word words)) (10 ∷ [])

-- a prefix of the rank went in
pub rank_cut : (first second : Word) (words : Line) (a b : Outbox) → GathersPrefix a b first
    → GathersPrefix a b (line_text (first ∷ second ∷ words))
rank_cut first second words a b prefix =
    subst (GathersPrefix a b) (sym (first_word first second words))
    (gathers_first a b first ((32 ∷ []) ++ line_text (second ∷ words)) prefix)

-- the rank did, and a prefix of the space
pub space_cut : (first second : Word) (words : Line) (a b c : Outbox) → Gathers a b first → GathersPrefix b c (32 ∷ [])
    → GathersPrefix a c (line_text (first ∷ second ∷ words))
space_cut first second words a b c rank prefix =
    subst (GathersPrefix a c) (sym (first_word first second words))
    (gathers_then a b c first ((32 ∷ []) ++ line_text (second ∷ words)) wrote.Fault rank
    (gathers_first b c (32 ∷ []) (line_text (second ∷ words)) prefix))

-- both did, and the rest or a prefix of it
pub step_said : (first second : Word) (words : Line) (a b c d : Outbox) (said : Wrote) → Gathers a b first
    → Gathers b c (32 ∷ []) → GathersAll c d (line_text (second ∷ words)) said
    → GathersAll a d (line_text (first ∷ second ∷ words)) said
step_said first second words a b c d said rank space rest =
    subst (λ (bytes : List ℕ). GathersAll a d bytes said) (sym (first_word first second words))
    (gathers_then a b d first ((32 ∷ []) ++ line_text (second ∷ words)) said rank
    (gathers_then b c d (32 ∷ []) (line_text (second ∷ words)) said space rest))
