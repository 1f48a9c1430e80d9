-- The pieces of a trace's text, as they are written.
use Rattle.std.proofs.Common.{◌≡◌, ℕ, ◌+◌, ◌<◌, List, [], ◌∷◌, ◌++◌, length, drop, map, get_or}
use Rattle.std.proofs.Common.{refl, sym, ap, subst, ◌∙◌, append_assoc, append-nil, decimal}
use Rattle.std.proofs.Common.{codes}
use Rattle.std.proofs.lemmas.List.{drop_more}
use Rattle.base_io.specs.Buffered.{Gathers, GathersUpTo, Outbox}
use Rattle.base_io.proofs.Outboxes.{nothing_yet, past_done}
use Rattle.base_turns.specs.declared.entry.Entry.{Entry}
use Rattle.base_text.specs.LineTexts.{spaced_word, line_text, spell}
use Rattle.text_trace.specs.TraceText.{got_word, entry_line}

apart : (name thread now got space end : List ℕ)
    → (name ++ ((space ++ thread) ++ ((space ++ now) ++ ((space ++ got) ++ [])))) ++ end
    ≡ name ++ ((space ++ thread) ++ ((space ++ now) ++ (space ++ (got ++ end))))
apart name thread now got space end = simp (append_assoc, append-nil)

-- the line of an entry, as it is written
pub entry_parts : (e : Entry) (thread : ℕ) → thread ≡ e.thread → line_text (entry_line e)
    ≡ codes "turn" ++ (spaced_word (decimal thread)
    ++ (spaced_word (decimal e.now) ++ ((32 ∷ []) ++ (got_word e.got ++ 10 ∷ []))))
entry_parts e thread same =
    apart (codes "turn") (decimal e.thread) (decimal e.now) (got_word e.got) (32 ∷ []) (10 ∷ [])
    ∙ ap (λ n. codes "turn" ++ (spaced_word (decimal n)
    ++ (spaced_word (decimal e.now) ++ ((32 ∷ []) ++ (got_word e.got ++ 10 ∷ []))))) (sym same)

-- what stands before the word of what a turn got went in
pub entry_prefix : (a b c d e f : Outbox) (entry : Entry) (thread : ℕ) (word : List ℕ) → thread ≡ entry.thread
    → word ≡ codes "turn" → Gathers a b [] → Gathers b c word → Gathers c d (spaced_word (decimal thread)) → Gathers d e (spaced_word (decimal entry.now))
    → Gathers e f (32 ∷ []) → GathersUpTo a f (line_text (entry_line entry)) (got_word entry.got ++ 10 ∷ [])
entry_prefix a b c d e f entry thread word same named room name first second space =
    past_done _ _ _ _ _ _ _ refl
    (past_done _ _ _ _ _ _ _ refl
    (past_done _ _ _ _ _ _ _ refl
    (past_done _ _ _ _ _ _ _ (entry_parts entry thread same)
    (past_done a a b _ [] _ _ refl (nothing_yet a (line_text (entry_line entry))) room) (subst (Gathers b c) named name)) first) second) space

-- a line after the others
pub next_line : (es : List Entry) (i : ℕ) (e : Entry) → i < length es → e ≡ get_or es i e
    → spell (map entry_line (drop i es)) ≡ line_text (entry_line e) ++ spell (map entry_line (drop (i + 1) es))
next_line es i e lt is =
    ap (λ xs. spell (map entry_line xs)) (drop_more es i e lt) ∙ ap (λ x. line_text (entry_line x)
    ++ spell (map entry_line (drop (i + 1) es))) (sym is)
