-- Reading a trace is the inverse of its text.
use Rattle.std.proofs.Common.{◌≡◌, ℕ, zero, suc, ◌+◌, ◌<◌, List, [], ◌∷◌, ◌++◌, length, Option, Some, None}
use Rattle.std.proofs.Common.{cond, Ok, is_none, option_to_list, All, refl, sym, ap, subst, ◌∙◌, append_assoc}
use Rattle.std.proofs.Common.{append-nil, arith, codes, length-append}
use Rattle.std.specs.List.{AllByRecursion}
use Rattle.std.proofs.lemmas.List.Elements.{All-from_recursion}
use Rattle.base_turns.specs.declared.entry.Entry.{Entry}
use Rattle.text_trace.specs.declared.trace.Trace.{Trace}
use Rattle.base_text.specs.Lines.{Word}
use Rattle.base_text.specs.LineTexts.{Line, line_text, spell, IsWord}
use Rattle.text_trace.specs.TraceText.{entry_line, end_line, line_of_number, entry_lines, trace_text, IsEntry}
use Rattle.text_trace.specs.TraceReading.{behind_entries, read_line, setting_of, entry_or_end, entries_at}
use Rattle.text_trace.proofs.LineLaws.{ok_is, bind_ok, read_takes, read_again}
use Rattle.text_trace.proofs.WordLaws.{IsIn, setting_takes, setting_again, IsNext, next_takes}
use Rattle.text_trace.proofs.WordLaws.{next_again, next_end, end_is_line, entry_is_line, number_is_line}

-- ---- entries

-- the text of entries, and of the line `end`
abbrev pub entries_text : List Entry → List ℕ
entries_text es = spell (entry_lines es)

-- entries and the bytes after them
pub record EntriesRead (threads : ℕ) (bytes : List ℕ) (x : List Entry × List ℕ) : Type 0 where
  pub text : bytes ≡ entries_text x.0 ++ x.1
  pub entries : AllByRecursion (IsEntry threads) x.0

ended : (threads : ℕ) (bytes rest : List ℕ) → bytes ≡ line_text end_line ++ rest → EntriesRead threads bytes ([], rest)
ended threads bytes rest e = record {
  text = e ∙ ap (λ z. z ++ rest) (sym (append-nil (line_text end_line)));
  entries =
      tt;
}

went_on : (threads : ℕ) (bytes mid : List ℕ) (e : Entry) (x : List Entry × List ℕ) → bytes ≡ line_text (entry_line e)
    ++ mid → IsEntry threads e → EntriesRead threads mid x → EntriesRead threads bytes (e ∷ x.0, x.1)
went_on threads bytes mid e x text is k = record {
  text = text ∙ ap (λ z. line_text (entry_line e) ++ z) k.text
      ∙ sym (append_assoc (line_text (entry_line e)) (entries_text x.0) x.1);
  entries = (is, k.entries);
}

one_more : (room threads line : ℕ) (o : Option Entry) (bytes mid : List ℕ) (x : List Entry × List ℕ) (words : Line)
    → bytes ≡ line_text words ++ mid → IsNext threads words o
    → ((y : List Entry × List ℕ) → entries_at room threads (line + 1) mid ≡ Ok y → EntriesRead threads mid y)
    → cond (is_none o) (Ok ([], mid)) (behind_entries (option_to_list o) (entries_at room threads (line + 1) mid)) ≡ Ok x
    → EntriesRead threads bytes x
one_more room threads line None bytes mid x words text n more e =
    let made : List Entry × List ℕ = ([], mid) in
    subst (EntriesRead threads bytes) (ok_is made x e)
    (ended threads bytes mid (text ∙ ap (λ (ws : Line). line_text ws ++ mid) n))
one_more room threads line (Some v) bytes mid x words text n more e =
    let a = bind_ok (entries_at room threads (line + 1) mid) (λ y. Ok (v ∷ y.0, y.1)) x e in
    let made : List Entry × List ℕ = (v ∷ a.0.0, a.0.1) in
    subst (EntriesRead threads bytes) (ok_is made x a.2)
    (went_on threads bytes mid v a.0 (text ∙ ap (λ (ws : Line). line_text ws ++ mid) n.0) n.1 (more a.0 a.1))

pub entries_take : (room threads line : ℕ) (bytes : List ℕ) (x : List Entry × List ℕ) → entries_at room threads line
    bytes ≡ Ok x → EntriesRead threads bytes x
unfolding entries_at
entries_take zero threads line bytes x e = absurd (cc)
entries_take (suc room) threads line bytes x e =
    let a = bind_ok (read_line line (entry_or_end threads) bytes) (λ y. cond (is_none y.0) (Ok ([], y.1))
    (behind_entries (option_to_list y.0) (entries_at room threads (line + 1) y.1))) x e in
    let l = read_takes line (entry_or_end threads) bytes a.0 a.1 in
    one_more room threads line a.0.0 bytes a.0.1 x l.words l.text (next_takes threads l.words a.0.0 l.says)
    (λ y. entries_take room threads (line + 1) a.0.1 y) a.2

only_end : (rest : List ℕ) → entries_text [] ++ rest ≡ line_text end_line ++ rest
only_end rest = ap (λ z. z ++ rest) (append-nil (line_text end_line))

pub entries_again : (room threads line : ℕ) (es : List Entry) (rest : List ℕ) → length es < room
    → AllByRecursion (IsEntry threads) es → entries_at room threads line (entries_text es ++ rest) ≡ Ok (es, rest)
unfolding entries_at
entries_again zero threads line es rest lt h = absurd (omega arith)
entries_again (suc room) threads line [] rest lt h =
    ap (entries_at (suc room) threads line) (only_end rest) ∙ rw (read_again line (entry_or_end threads) end_line rest None
    end_is_line (next_end threads)) refl
entries_again (suc room) threads line (e ∷ es) rest lt h =
    ap (entries_at (suc room) threads line) (append_assoc (line_text (entry_line e)) (entries_text es) rest)
    ∙ rw (
      read_again line (entry_or_end threads) (entry_line e) (entries_text es ++ rest) (Some e)
          (entry_is_line threads e h.0) (next_again threads e h.0),
      entries_again room threads (line + 1) es rest
          (omega arith) h.1,
    ) refl

-- each line has a byte
pub line_long : (words : Line) → 0 < length (line_text words)
line_long words = simp length-append (omega arith)

pub entries_short : (es : List Entry) → length es < length (entries_text es)
entries_short [] = let l = line_long end_line in simp length-append (omega arith)
entries_short (e ∷ es) = let l = line_long (entry_line e) in let i = entries_short es in simp length-append
    (omega arith)

-- ---- settings

pub setting_line : (line : ℕ) (name : Word) (low high : ℕ) (bytes : List ℕ) (x : ℕ × List ℕ)
    → read_line line (setting_of name low high) bytes ≡ Ok x → (bytes ≡ line_text (line_of_number name x.0) ++ x.1)
    × IsIn low high x.0
setting_line line name low high bytes x e =
    let l = read_takes line (setting_of name low high) bytes x e in
    let s = setting_takes name low high x.0 l.words l.says in
    (l.text ∙ ap (λ (ws : Line). line_text ws ++ x.1) s.0, s.1)

pub setting_line_again : (line : ℕ) (name : Word) (low high n : ℕ) (rest : List ℕ) → IsWord name → IsIn low high n
    → read_line line (setting_of name low high) (line_text (line_of_number name n) ++ rest) ≡ Ok (n, rest)
setting_line_again line name low high n rest word h = read_again line (setting_of name low high) (line_of_number name n)
    rest n (number_is_line name n word h.fits) (setting_again name low high n h)

-- ---- traces

four : (a b c d rest : List ℕ) → (a ++ (b ++ (c ++ d))) ++ rest ≡ a ++ (b ++ (c ++ (d ++ rest)))
four a b c d rest = simp append_assoc

-- the text of a trace, part by part
pub parts : (version : ℕ) (t : Trace) (rest : List ℕ) → trace_text version t ++ rest
    ≡ line_text (line_of_number (codes "trace") version) ++ (line_text (line_of_number (codes "job") t.job)
    ++ (line_text (line_of_number (codes "rank") t.rank) ++ (entries_text t.entries ++ rest)))
parts version t rest = four (line_text (line_of_number (codes "trace") version))
    (line_text (line_of_number (codes "job") t.job)) (line_text (line_of_number (codes "rank") t.rank))
    (entries_text t.entries) rest

pub trace_word : IsWord (codes "trace")
trace_word = record {
  some = omega arith;
  plain = (
    (omega arith, omega arith),
    (
      (omega arith, omega arith),
      ((omega arith, omega arith), ((omega arith, omega arith), ((omega arith, omega arith), tt))),
    ),
  );
}

pub job_word : IsWord (codes "job")
job_word = record {
  some = omega arith;
  plain =
      ((omega arith, omega arith), ((omega arith, omega arith), ((omega arith, omega arith), tt)));
}

pub rank_word : IsWord (codes "rank")
rank_word = record {
  some = omega arith;
  plain = (
    (omega arith, omega arith),
    ((omega arith, omega arith), ((omega arith, omega arith), ((omega arith, omega arith), tt))),
  );
}

-- ---- what a caller of a merge needs

below : (threads : ℕ) (es : List Entry) → AllByRecursion (IsEntry threads) es → AllByRecursion (λ e. e.thread < threads)
    es
below threads [] h = tt
below threads (e ∷ es) h = (h.0.thread, below threads es h.1)

pub threads_below : (threads : ℕ) (es : List Entry) → AllByRecursion (IsEntry threads) es
    → All (λ e. e.thread < threads) es
threads_below threads es h = All-from_recursion (λ e. e.thread < threads) es (below threads es h)

longer : (a b c d : List ℕ) (n : ℕ) → n < length d → n < length (a ++ (b ++ (c ++ d)))
longer a b c d n h = simp length-append (omega arith)

-- a text has more bytes than entries
pub few_entries : (version : ℕ) (t : Trace) → length t.entries < length (trace_text version t)
few_entries version t =
    longer (line_text (line_of_number (codes "trace") version)) (line_text (line_of_number (codes "job") t.job))
    (line_text (line_of_number (codes "rank") t.rank)) (entries_text t.entries) (length t.entries)
    (entries_short t.entries)
