-- The lines of the counts, one after the other.
use Rattle.std.proofs.Common.{◌≡◌, ℕ, suc, ◌+◌, ◌<◌, ◌≤◌, List, [], ◌∷◌, ◌++◌, length, get_or, map, drop, decimal, refl}
use Rattle.std.proofs.Common.{ap, arith}
use Rattle.std.proofs.Common.{drop-cons, subst, ◌∙◌}
use Rattle.std.proofs.Math.ListN.{drop_of_length-le}
use Rattle.std.proofs.lemmas.List.Concat.{flat_map-append}
use Rattle.base_io.specs.Buffered.{Outbox, Gathers, GathersAll}
use Rattle.base_io.specs.declared.writing.Wrote.{Wrote}
use Rattle.base_io.specs.declared.writing.Wrote.TheVariants as wrote
use Rattle.base_io.proofs.Outboxes.{gathers_first, gathers_then}
use Rattle.base_text.specs.LineTexts.{Line, spell, line_text}
use Rattle.sim_run.specs.LinesWritten.{SaysLines, said_of}
use Rattle.sim_drill.specs.Summary.{all_counted, count_lines, counted_word}
use Rattle.sim_drill.specs.declared.counts.Counted.{Counted}

-- the line of a word
abbrev pub count_line : (Counted → ℕ) → Counted → Line
count_line count counted = counted_word counted ∷ decimal (count counted) ∷ []

-- the lines of the words from this place on
abbrev pub lines_from : (Counted → ℕ) → (place : ℕ) → List Line
lines_from count place = map (count_line count) (drop place all_counted)

ten_words : length all_counted ≡ 10
unfolding all_counted
ten_words = refl

-- the line of the word at a place, and those behind it
pub next_line : (count : Counted → ℕ) (place : ℕ) (d : Counted) → place < 10
    → spell (lines_from count place)
    ≡ line_text (count_line count (get_or all_counted place d)) ++ spell (lines_from count (place + 1))
next_line count place d there =
    let inside : place < length all_counted = omega (arith, ten_words) in
    let next : suc place ≡ place + 1 = omega arith in
    let here : drop place all_counted ≡ get_or all_counted place d ∷ drop (place + 1) all_counted =
    subst (λ n. drop place all_counted ≡ get_or all_counted place d ∷ drop n all_counted) next
    (drop-cons all_counted place d inside) in
    ap (λ (words : List Counted). spell (map (count_line count) words)) here

-- no line is left behind the last place
pub no_line : (count : Counted → ℕ) (place : ℕ) → 10 ≤ place → spell (lines_from count place) ≡ []
no_line count place over =
    let long : length all_counted ≤ place = omega (arith, ten_words) in
    ap (λ (words : List Counted). spell (map (count_line count) words)) (drop_of_length-le all_counted long)

-- the lines of equal counts
same_each : (count other : Counted → ℕ) (words : List Counted) → ((counted : Counted) → count counted ≡ other counted)
    → map (count_line count) words ≡ map (count_line other) words
same_each count other [] same = refl
same_each count other (counted ∷ words) same =
    ap (λ n. (counted_word counted ∷ decimal n ∷ []) ∷ map (count_line count) words) (same counted)
    ∙ ap (λ lines. count_line other counted ∷ lines) (same_each count other words same)

pub same_counts : (count other : Counted → ℕ) → ((counted : Counted) → count counted ≡ other counted)
    → count_lines count ≡ count_lines other
same_counts count other same = same_each count other all_counted same

-- ---- all lines of a drill

-- the first line, the counts, and the lines of the nodes
drill_text : (first : Line) (counts ends : List Line)
    → spell (first ∷ (counts ++ ends)) ≡ line_text first ++ (spell counts ++ spell ends)
drill_text first counts ends = ap (λ z. line_text first ++ z) (flat_map-append line_text counts ends)

-- the sink failed at the first line
pub first_fault : (a b : Outbox) (first : Line) (others : List Line) → GathersAll a b (line_text first) wrote.Fault
    → GathersAll a b (spell (first ∷ others)) wrote.Fault
first_fault a b first others h = gathers_first a b (line_text first) (spell others) h

-- at the counts
pub counts_fault : (a b c : Outbox) (first : Line) (counts ends : List Line) → Gathers a b (line_text first)
    → GathersAll b c (spell counts) wrote.Fault → GathersAll a c (spell (first ∷ (counts ++ ends))) wrote.Fault
counts_fault a b c first counts ends h k =
    rw (drill_text first counts ends)
    (gathers_then a b c (line_text first) (spell counts ++ spell ends) wrote.Fault h
    (gathers_first b c (spell counts) (spell ends) k))

-- or it came to the lines of the nodes
pub drill_written : (a b c d : Outbox) (first : Line) (counts ends : List Line) (r : Wrote)
    → Gathers a b (line_text first) → Gathers b c (spell counts) → GathersAll c d (spell ends) r
    → GathersAll a d (spell (first ∷ (counts ++ ends))) r
drill_written a b c d first counts ends r h k l =
    rw (drill_text first counts ends)
    (gathers_then a b d (line_text first) (spell counts ++ spell ends) r h
    (gathers_then b c d (spell counts) (spell ends) r k l))

-- what was written, as lines that were said
pub lines_told : (a b : Outbox) (lines : List Line) (r : Wrote) → GathersAll a b (spell lines) r
    → SaysLines a b lines (said_of r)
lines_told a b lines wrote.Done h = h
lines_told a b lines wrote.Fault h = h
