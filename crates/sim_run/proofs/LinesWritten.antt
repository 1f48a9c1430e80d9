-- How far lines went into a sink, one piece after the other.
use Rattle.std.proofs.Common.{◌≡◌, ℕ, List, [], ◌∷◌, ◌++◌, refl, sym, ap, subst, ◌∙◌, append_assoc}
use Rattle.std.proofs.lemmas.List.{append-nil}
use Rattle.std.proofs.lemmas.List.Concat.{flat_map-append}
use Rattle.base_io.specs.Buffered.{Outbox, Gathers, GathersAll}
use Rattle.base_io.proofs.Outboxes.{gathers_none, gathers_more, gathers_first, gathers_then}
use Rattle.base_io.specs.declared.writing.Wrote.{Wrote}
use Rattle.base_io.specs.declared.writing.Wrote.TheVariants as wrote
use Rattle.base_text.specs.LineTexts.{Line, spell, line_text}
use Rattle.sim_run.specs.LinesWritten.{LinesUpTo, SaysLines, OnDone, said_of}
use Rattle.sim_run.specs.declared.said.Said.{Said}
use Rattle.sim_run.specs.declared.said.Said.TheVariants.{Done, Fault, NoMemory}

-- the text of lines, and of one line more
pub one_more : (lines : List Line) (line : Line) → spell (lines ++ line ∷ []) ≡ spell lines ++ line_text line
one_more lines line =
    flat_map-append line_text lines (line ∷ []) ∙ ap (λ z. spell lines ++ z) (append-nil (line_text line))

-- nothing went in yet
pub no_lines_yet : (a : Outbox) (all : List Line) → LinesUpTo a a all all
no_lines_yet a all = record { prefix = []; whole = refl; gathered = gathers_none a }

-- the next lines went in
pub lines_done : (a b c : Outbox) (all rest x y : List Line) → rest ≡ x ++ y → LinesUpTo a b all rest
    → Gathers b c (spell x) → LinesUpTo a c all y
lines_done a b c all rest x y e h k = record {
  prefix = h.prefix ++ x;
  whole = h.whole ∙ ap (λ z. h.prefix ++ z) e ∙ sym (append_assoc h.prefix x y);
  gathered = rw (flat_map-append line_text h.prefix x) (gathers_more a b c (spell h.prefix) (spell x) h.gathered k);
}

-- no line is left
pub lines_all : (a b : Outbox) (all rest : List Line) → rest ≡ [] → LinesUpTo a b all rest → Gathers a b (spell all)
lines_all a b all rest e h =
    subst (λ z. Gathers a b (spell z)) (sym (h.whole ∙ ap (λ z. h.prefix ++ z) e ∙ append-nil h.prefix)) h.gathered

-- the next lines were said, and not all of them
pub lines_said : (a b c : Outbox) (all rest x y : List Line) (said : Said) → (said ≡ Done → ⊥) → rest ≡ x ++ y
    → LinesUpTo a b all rest → SaysLines b c x said → SaysLines a c all said
lines_said a b c all rest x y Done n e h k = absurd (n refl)
lines_said a b c all rest x y Fault n e h k =
    let whole : spell all ≡ spell h.prefix ++ (spell x ++ spell y) =
    ap spell (h.whole ∙ ap (λ z. h.prefix ++ z) e) ∙ flat_map-append line_text h.prefix (x ++ y)
    ∙ ap (λ z. spell h.prefix ++ z) (flat_map-append line_text x y) in
    rw whole (gathers_then a b c (spell h.prefix) (spell x ++ spell y) wrote.Fault h.gathered
    (gathers_first b c (spell x) (spell y) k))
lines_said a b c all rest x y NoMemory n e h k = (
  k.0 ++ y,
  record {
    prefix = h.prefix ++ k.1.prefix;
    whole = h.whole ∙ ap (λ z. h.prefix ++ z) (e ∙ ap (λ z. z ++ y) k.1.whole ∙ append_assoc k.1.prefix k.0 y)
        ∙ sym (append_assoc h.prefix k.1.prefix (k.0 ++ y));
    gathered = rw (flat_map-append line_text h.prefix k.1.prefix)
        (gathers_more a b c (spell h.prefix) (spell k.1.prefix) h.gathered k.1.gathered);
  },
)

-- of what was not all said, a fact where all was said
pub not_done : (s : Said) (P : Type 0) → (s ≡ Done → ⊥) → OnDone s P
not_done Done P h = absurd (h refl)
not_done Fault P h = tt
not_done NoMemory P h = tt

-- lines went in, and then the lines after them
pub both_said : (a b c : Outbox) (x y : List Line) (r : Wrote) → Gathers a b (spell x) → GathersAll b c (spell y) r
    → SaysLines a c (x ++ y) (said_of r)
both_said a b c x y wrote.Done h k = rw (flat_map-append line_text x y) (gathers_more a b c (spell x) (spell y) h k)
both_said a b c x y wrote.Fault h k =
    rw (flat_map-append line_text x y) (gathers_then a b c (spell x) (spell y) wrote.Fault h k)

-- one line, as lines that were said
pub one_line : (a b : Outbox) (line : Line) (r : Wrote) → GathersAll a b (line_text line) r
    → SaysLines a b (line ∷ []) (said_of r)
one_line a b line wrote.Done h = subst (Gathers a b) (sym (append-nil (line_text line))) h
one_line a b line wrote.Fault h =
    subst (λ (bytes : List ℕ). GathersAll a b bytes wrote.Fault) (sym (append-nil (line_text line))) h

pub on_done : (r : Wrote) (P : Type 0) → P → OnDone (said_of r) P
on_done wrote.Done P p = p
on_done wrote.Fault P p = tt

-- a fact where all was said, and what follows from it
pub on_done_more : (s : Said) {P Q : Type 0} → (P → Q) → OnDone s P → OnDone s Q
on_done_more Done more p = more p
on_done_more Fault more p = tt
on_done_more NoMemory more p = tt
