-- A line that says an entry or the end has words only, so its text needs no test.
use Rattle.std.proofs.Common.{◌≡◌, ℕ, List, [], ◌∷◌, ◌++◌, Option, Some, None, true, cond, Ok, Err, sym, ap, subst, ◌∙◌}
use Rattle.std.proofs.Common.{append_assoc}
use Rattle.base_turns.specs.declared.entry.Entry.{Entry}
use Rattle.base_text.specs.Reasons.{is_text}
use Rattle.base_text.specs.declared.why.LineWhy.TheVariants.{Text}
use Rattle.base_text.specs.LineTexts.{IsLine, Line, line_text}
use Rattle.base_text.specs.Chains.{◌>>=◌}
use Rattle.base_text.proofs.TextLaws.{text_again}
use Rattle.text_trace.specs.TraceReading.{at_line, line_at, entry_or_end, read_line, words_of}
use Rattle.text_trace.proofs.LineLaws.{words_joined}
use Rattle.text_trace.proofs.WordLaws.{IsNext, next_takes, end_is_line, entry_is_line}

next_is_line : (threads : ℕ) (words : Line) (next : Option Entry) → IsNext threads words next → IsLine words
next_is_line threads words None h = subst IsLine (sym h) end_is_line
next_is_line threads words (Some e) h = subst IsLine (sym h.0) (entry_is_line threads e h.1)

-- such a line is read as its words say
pub next_read : (line threads : ℕ) (bytes text rest : List ℕ) (next : Option Entry) → bytes ≡ text ++ 10 ∷ rest
    → line_at bytes ≡ cond (is_text bytes) (Ok (text, rest)) (Err Text) → entry_or_end threads (words_of text) ≡ Ok next
    → read_line line (entry_or_end threads) bytes ≡ Ok (next, rest)
next_read line threads bytes text rest next whole cut says =
    let is = next_is_line threads (words_of text) next (next_takes threads (words_of text) next says) in
    let same : bytes ≡ line_text (words_of text) ++ rest =
    whole ∙ ap (λ (z : List ℕ). z ++ 10 ∷ rest) (sym (words_joined text)) ∙ sym (append_assoc _ (10 ∷ []) rest) in
    let test : is_text bytes ≡ true = ap is_text same ∙ text_again (words_of text) rest is in
    ap (λ r. at_line line (r >>= λ y. entry_or_end threads (words_of y.0) >>= λ a. Ok (a, y.1)))
    (cut ∙ ap (λ b. cond b (Ok (text, rest)) (Err Text)) test)
    ∙ ap (λ r. at_line line (r >>= λ a. Ok (a, rest))) says
