-- A trace that isn't read, line by line.
use Rattle.std.proofs.Common.{◌≡◌, ◌⊎◌, inl, inr, ℕ, zero, suc, ◌+◌, ◌<◌, ◌^◌, List, [], ◌∷◌, ◌++◌, length, map, Option}
use Rattle.std.proofs.Common.{Some, None, Bool, true, false, ltb, cond, Result, Ok, Err, is_none, option_to_list}
use Rattle.std.proofs.Common.{refl, sym, ap, subst, ◌∙◌, append_assoc, arith, codes, ◌-◌, decimal, drop, length-append}
use Rattle.std.specs.List.{AllByRecursion}
use Rattle.std.proofs.lemmas.List.{map-append}
use Rattle.base_turns.specs.declared.entry.Entry.{Entry}
use Rattle.base_text.specs.declared.why.LineWhy.{LineWhy}
use Rattle.base_text.specs.declared.why.LineWhy.TheVariants.{Form, Value}
use Rattle.text_trace.specs.declared.trace.Trace.{Trace}
use Rattle.base_text.specs.Lines.{Word}
use Rattle.base_text.specs.LineTexts.{Line, IsLine, line_text}
use Rattle.text_trace.specs.TraceText.{IsEntry, IsTrace, end_line, entry_line, entry_lines, line_of_number, trace_lines}
use Rattle.text_trace.specs.TraceText.{got_word}
use Rattle.base_text.specs.Chains.{◌>>=◌}
use Rattle.text_trace.specs.TraceReading.{BadLine, decoded_bytes, entries_at, entry_of, got_of, is_end, entry_or_end}
use Rattle.text_trace.specs.TraceReading.{number_between, read_line, second_of, few_got, setting_of, thread_of}
use Rattle.base_text.specs.HexBytes.{pairs_of}
use Rattle.base_text.specs.Words.{number_of}
use Rattle.text_trace.specs.TraceReading.{turn_of, TurnWords, behind_entries, within}
use Rattle.text_trace.specs.LineRefusals.{Means, TextKind}
use Rattle.text_trace.specs.TraceRefusals.{AtVersion, AtJob, AtRank, AtEntries, HasForm, IsNamed, MayStand, TracePlace}
use Rattle.text_trace.specs.TraceRefusals.{place_behind}
use Rattle.text_trace.proofs.LineLaws.{read_takes}
use Rattle.text_trace.proofs.LineRefused.{HasLines, NoForm, NoValue, Reached, Refuses, Walked, Wrongly}
use Rattle.text_trace.proofs.LineRefused.{bind_err, err_is, fails_behind, line_err, ok_err, reach_on}
use Rattle.text_trace.proofs.WordLaws.{IsIn, IsNext, end_is_line, entry_is_line, next_again, next_end}
use Rattle.text_trace.proofs.WordLaws.{next_takes, number_is_line, second_again, second_takes, setting_again}
use Rattle.text_trace.proofs.WordLaws.{turn_again, turn_takes}
use Rattle.text_trace.proofs.TraceLaws.{job_word, line_long, rank_word}
use Rattle.text_trace.proofs.TraceLaws.{trace_word}
use Rattle.base_lists.proofs.Members.{all_append}

-- ---- words that are refused

cond_err : {A : Type 0} (t : Bool) (x : A) (w why : LineWhy) → ◌≡◌ {A = Result A LineWhy} (cond t (Ok x) (Err w))
    (Err why) → why ≡ w
cond_err true x w why h = absurd (cc)
cond_err {A} false x w why h = sym (err_is {A = A} h)

second_form : (name : Word) (words : Line) (why : LineWhy) → second_of name words ≡ Err why → why ≡ Form
unfolding second_of
second_form name [] why h = sym (err_is {A = Word} h)
second_form name (w ∷ []) why h = sym (err_is {A = Word} h)
second_form name (w ∷ v ∷ []) why h = cond_err _ v Form why h
second_form name (w ∷ v ∷ u ∷ words) why h = sym (err_is {A = Word} h)

turn_form : (words : Line) (why : LineWhy) → turn_of words ≡ Err why → why ≡ Form
unfolding turn_of
turn_form [] why h = sym (err_is {A = TurnWords} h)
turn_form (a ∷ []) why h = sym (err_is {A = TurnWords} h)
turn_form (a ∷ b ∷ []) why h = sym (err_is {A = TurnWords} h)
turn_form (a ∷ b ∷ c ∷ []) why h = sym (err_is {A = TurnWords} h)
turn_form (a ∷ b ∷ c ∷ d ∷ []) why h = cond_err _ (record { thread = b; time = c; got = d }) Form why h
turn_form (a ∷ b ∷ c ∷ d ∷ e ∷ words) why h = sym (err_is {A = TurnWords} h)

within_value : (low high : ℕ) (o : Option ℕ) (why : LineWhy) → within low high o ≡ Err why → why ≡ Value
within_value low high None why h = sym (err_is {A = ℕ} h)
within_value low high (Some n) why h = cond_err _ n Value why h

number_value : (low high : ℕ) (word : Word) (why : LineWhy) → number_between low high word ≡ Err why → why ≡ Value
unfolding number_between
number_value low high word why h = within_value low high (number_of word) why h

-- what fails for want of a value fails so in its first part, or behind it
then_value : {A B : Type 0} (r : Result A LineWhy) (f : A → Result B LineWhy) (why : LineWhy)
    → ((w : LineWhy) → r ≡ Err w → w ≡ Value) → ((x : A) (w : LineWhy) → f x ≡ Err w → w ≡ Value)
    → (r >>= f) ≡ Err why → why ≡ Value
then_value (Ok x) f why first more h = more x why h
then_value {A} {B} (Err w) f why first more h = sym (err_is {A = B} h) ∙ first w refl

thread_value : (threads : ℕ) (word : Word) (why : LineWhy) → thread_of threads word ≡ Err why → why ≡ Value
unfolding thread_of
thread_value threads word why h =
    then_value (number_between 0 65535 word) (λ n. cond (ltb n threads) (Ok n) (Err Value)) why
    (λ w. number_value 0 65535 word w) (λ n w. cond_err (ltb n threads) n Value w) h

few_value : (read : Option (List ℕ)) (why : LineWhy) → few_got read ≡ Err why → why ≡ Value
few_value None why h = sym (err_is {A = List ℕ} h)
few_value (Some bytes) why h = cond_err _ bytes Value why h

bytes_value : (word : Word) (why : LineWhy) → decoded_bytes word ≡ Err why → why ≡ Value
unfolding decoded_bytes
bytes_value word why h = few_value (pairs_of word) why h

ok_value : {A : Type 0} (x : A) (why : LineWhy) → ◌≡◌ {A = Result A LineWhy} (Ok x) (Err why) → why ≡ Value
ok_value x why h = absurd (cc)

got_by : (dash begins : Bool) (r : Result (List ℕ) LineWhy) (why : LineWhy)
    → ((w : LineWhy) → r ≡ Err w → w ≡ Value)
    → ◌≡◌ {A = Result (Option (List ℕ)) LineWhy} (cond dash (Ok None) (cond begins (r >>= λ bytes. Ok (Some bytes))
    (Err Value))) (Err why) → why ≡ Value
got_by true begins r why value h = absurd (cc)
got_by false true r why value h = then_value r (λ bytes. Ok (Some bytes)) why value (λ bytes w. ok_value (Some bytes) w)
    h
got_by false false r why value h = sym (err_is {A = Option (List ℕ)} h)

got_value : (word : Word) (why : LineWhy) → got_of word ≡ Err why → why ≡ Value
unfolding got_of
got_value word why h = got_by _ _ (decoded_bytes (drop 1 word)) why (λ w. bytes_value (drop 1 word) w) h

entry_value : (threads : ℕ) (turn : TurnWords) (why : LineWhy) → entry_of threads turn ≡ Err why → why ≡ Value
unfolding entry_of
entry_value threads turn why h =
    then_value (thread_of threads turn.thread) _ why (λ w. thread_value threads turn.thread w) (λ n w k.
    then_value (number_between 0 (2 ^ 64 - 1) turn.time) _ w (λ v. number_value 0 (2 ^ 64 - 1) turn.time v) (λ m v l.
    then_value (got_of turn.got) (λ g. Ok (record { thread = n; now = m; got = g })) v
    (λ u. got_value turn.got u) (λ g u. ok_value (record { thread = n; now = m; got = g }) u) l) k) h

-- a name and a number of a range
pub data SettingWrong (name : Word) (low high : ℕ) (words : Line) (why : LineWhy) : Type 0 where
  OtherForm : why ≡ Form → (IsNamed name words → ⊥) → SettingWrong name low high words why
  OtherNumber : why ≡ Value → IsNamed name words → ((n : ℕ) → IsIn low high n → words ≡ line_of_number name n → ⊥)
      → SettingWrong name low high words why

no_number : (name : Word) (low high : ℕ) (words : Line) (why : LineWhy) → setting_of name low high words ≡ Err why
    → (n : ℕ) → IsIn low high n → words ≡ line_of_number name n → ⊥
no_number name low high words why h n is e = ok_err (ap (setting_of name low high) e
    ∙ setting_again name low high n is) h

setting_by : (name : Word) (low high : ℕ) (words : Line) (why : LineWhy) → ((n : ℕ) → IsIn low high n
    → words ≡ line_of_number name n → ⊥) → (second_of name words ≡ Err why)
    ⊎ ((value : Word) × ((second_of name words ≡ Ok value) × (number_between low high value ≡ Err why)))
    → SettingWrong name low high words why
setting_by name low high words why none (inl h) =
    OtherForm (second_form name words why h) (λ named. ok_err (ap (second_of name) named.1
    ∙ second_again name named.0) h)
setting_by name low high words why none (inr x) =
    OtherNumber (number_value low high x.0 why x.1.1) (x.0, second_takes name words x.0 x.1.0) none

pub setting_wrong : (name : Word) (low high : ℕ) (words : Line) (why : LineWhy) → setting_of name low high words ≡ Err why
    → SettingWrong name low high words why
unfolding setting_of
setting_wrong name low high words why h =
    setting_by name low high words why (no_number name low high words why h)
    (bind_err (second_of name words) (number_between low high) why h)

-- the lines of the settings
pub one_number : (name : Word) (n : ℕ) → n < 2 ^ 64
    → Refuses (IsNamed name) (λ words. words ≡ line_of_number name n) (setting_of name n n)
one_number name n fits words why h = wrong (setting_wrong name n n words why h)
  where
    wrong : SettingWrong name n n words why → Wrongly (IsNamed name) (λ ws. ws ≡ line_of_number name n) words why
    wrong (OtherForm is none) = NoForm is none
    wrong (OtherNumber is named none) = NoValue is named (λ e. none n (record {
      least = omega arith;
      most = omega arith;
      fits = fits;
    }) e)

-- an entry, or the line `end`
not_end : (threads : ℕ) (words : Line) (why : LineWhy) → entry_or_end threads words ≡ Err why → words ≡ end_line → ⊥
not_end threads words why h e = ok_err (ap (entry_or_end threads) e ∙ next_end threads) h

no_entry : (version threads : ℕ) (words : Line) (why : LineWhy) → entry_or_end threads words ≡ Err why
    → MayStand version threads AtEntries words → ⊥
no_entry version threads words why h (inl e) = not_end threads words why h e
no_entry version threads words why h (inr x) = ok_err (ap (entry_or_end threads) x.1.1 ∙ next_again threads x.0 x.1.0) h

no_turn : (threads : ℕ) (words : Line) (why why_turn : LineWhy) → entry_or_end threads words ≡ Err why
    → turn_of words ≡ Err why_turn → HasForm AtEntries words → ⊥
no_turn threads words why why_turn h k (inl e) = not_end threads words why h e
no_turn threads words why why_turn h k (inr t) = ok_err (ap turn_of t.is ∙ turn_again t.thread t.time t.got) k

turn_by : (version threads : ℕ) (words : Line) (why : LineWhy) → entry_or_end threads words ≡ Err why
    → (turn_of words ≡ Err why) ⊎ ((turn : TurnWords) × ((turn_of words ≡ Ok turn)
    × ((entry_of threads turn >>= λ e. Ok (Some e)) ≡ Err why))) → Wrongly (HasForm AtEntries) (MayStand version threads AtEntries) words why
turn_by version threads words why h (inl k) =
    NoForm (turn_form words why k) (no_turn threads words why why h k)
turn_by version threads words why h (inr x) =
    NoValue (then_value (entry_of threads x.0) (λ e. Ok (Some e)) why (λ w. entry_value threads x.0 w)
    (λ e w. ok_value (Some e) w) x.1.1) (inr (record {
      thread = x.0.thread;
      time = x.0.time;
      got = x.0.got;
      is = turn_takes words x.0 x.1.0;
    })) (no_entry version threads words why h)

next_by : (version threads : ℕ) (words : Line) (why : LineWhy) (t : Bool) → entry_or_end threads words ≡ Err why
    → cond t (Ok None) (turn_of words >>= λ turn. entry_of threads turn >>= λ e. Ok (Some e)) ≡ Err why
    → Wrongly (HasForm AtEntries) (MayStand version threads AtEntries) words why
next_by version threads words why true h k = absurd (cc)
next_by version threads words why false h k =
    turn_by version threads words why h (bind_err (turn_of words) (λ turn. entry_of threads turn >>= λ e. Ok (Some e))
    why k)

pub entry_wrong : (version threads : ℕ) → Refuses (HasForm AtEntries) (MayStand version threads AtEntries) (entry_or_end threads)
unfolding entry_or_end
entry_wrong version threads words why h = next_by version threads words why (is_end words) h h

-- what may stand at a place has its form
pub form_of : (version threads : ℕ) (place : TracePlace) (words : Line) → MayStand version threads place words
    → HasForm place words
form_of version threads AtVersion words e = (decimal version, e)
form_of version threads AtJob words may = (decimal may.0, may.1.1)
form_of version threads AtRank words may = (decimal may.0, may.1.1)
form_of version threads AtEntries words (inl e) = inl e
form_of version threads AtEntries words (inr x) = inr (record {
  thread = decimal (x.0).thread;
  time = decimal (x.0).now;
  got = got_word (x.0).got;
  is = x.1.1;
})

-- ---- lines of traces

pub first_same : {a b : Line} {xs ys : List Line} → ◌≡◌ {A = List Line} (a ∷ xs) (b ∷ ys) → a ≡ b
first_same e = cc

pub rest_same : {a b : Line} {xs ys : List Line} → ◌≡◌ {A = List Line} (a ∷ xs) (b ∷ ys) → xs ≡ ys
rest_same e = cc

pub no_lines : (lines others : List Line) (words : Line) → [] ≡ lines ++ words ∷ others → ⊥
no_lines [] others words e = cc
no_lines (line ∷ lines) others words e = cc

entry_stands : (version threads : ℕ) (entries : List Entry) → AllByRecursion (IsEntry threads) entries
    → (lines others : List Line) (words : Line) → entry_lines entries ≡ lines ++ words ∷ others
    → MayStand version threads AtEntries words
entry_stands version threads [] is [] others words e = inl (sym (first_same e))
entry_stands version threads [] is (line ∷ lines) others words e =
    absurd (no_lines lines others words (rest_same e))
entry_stands version threads (entry ∷ entries) is [] others words e = inr (entry, (is.0, sym (first_same e)))
entry_stands version threads (entry ∷ entries) is (line ∷ lines) others words e =
    entry_stands version threads entries is.1 lines others words (rest_same e)

-- each line of a trace may stand where it does
pub stands : (version threads : ℕ) (trace : Trace) → IsTrace threads trace → (lines others : List Line) (words : Line)
    → trace_lines version trace ≡ lines ++ words ∷ others → MayStand version threads (place_behind lines) words
stands version threads trace is [] others words e = sym (first_same e)
stands version threads trace is (a ∷ []) others words e =
    (trace.job, (is.job, sym (first_same (rest_same e))))
stands version threads trace is (a ∷ b ∷ []) others words e =
    (trace.rank, (is.rank, sym (first_same (rest_same (rest_same e)))))
stands version threads trace is (a ∷ b ∷ c ∷ lines) others words e =
    entry_stands version threads trace.entries is.entries lines others words (rest_same (rest_same (rest_same e)))

-- they are lines of words
entries_are : (threads : ℕ) (entries : List Entry) → AllByRecursion (IsEntry threads) entries
    → AllByRecursion IsLine (entry_lines entries)
entries_are threads [] is = (end_is_line, tt)
entries_are threads (entry ∷ entries) is = (entry_is_line threads entry is.0, entries_are threads entries is.1)

pub lines_are : (version threads : ℕ) (trace : Trace) → version < 2 ^ 64 → IsTrace threads trace
    → AllByRecursion IsLine (trace_lines version trace)
lines_are version threads trace fits is = (
  number_is_line (codes "trace") version trace_word fits,
  (
    number_is_line (codes "job") trace.job job_word is.job,
    (
      number_is_line (codes "rank") trace.rank rank_word (let r = is.rank in omega arith),
      entries_are threads trace.entries is.entries,
    ),
  ),
)

-- ---- the entries of a text that has some

-- what is left of a trace whose first entry was read
prefix_err : (entry : Entry) (r : Result (List Entry × List ℕ) BadLine) (bad : BadLine)
    → behind_entries (entry ∷ []) r ≡ Err bad → r ≡ Err bad
prefix_err entry (Ok x) bad h = absurd (cc)
prefix_err entry (Err b) bad h = ap (λ (y : BadLine). Err y) (err_is {A = List Entry × List ℕ} h)

pub mapped_lines : (threads : ℕ) (entries : List Entry) → AllByRecursion (IsEntry threads) entries
    → AllByRecursion IsLine (map entry_line entries)
mapped_lines threads [] is = tt
mapped_lines threads (entry ∷ entries) is = (entry_is_line threads entry is.0, mapped_lines threads entries is.1)

-- entries behind the first lines of a text of some kind
pub record HasEntries {A : Type 0} (kind : TextKind A) (has : HasLines kind) (threads : ℕ) (head : List Line)
    : Type 0 where
  pub walked : (entries : List Entry) → AllByRecursion (IsEntry threads) entries
      → Walked kind has (head ++ map entry_line entries)
  pub refuses : (entries : List Entry) → Refuses (kind.HasForm (head ++ map entry_line entries))
      (kind.MayStand (head ++ map entry_line entries)) (entry_or_end threads)

module _ {A : Type 0} (kind : TextKind A) (has : HasLines kind) (threads : ℕ) (head : List Line)
    (entered : HasEntries kind has threads head) (bytes : List ℕ) where
  abbrev lines_to : List Entry → List Line
  lines_to entries = head ++ map entry_line entries

  lines_more : (entries : List Entry) (entry : Entry)
      → lines_to (entries ++ entry ∷ []) ≡ lines_to entries ++ entry_line entry ∷ []
  lines_more entries entry =
      ap (λ (ls : List Line). head ++ ls) (map-append entry_line entries (entry ∷ []))
      ∙ sym (append_assoc head (map entry_line entries) (entry_line entry ∷ []))

  -- reading goes on behind an entry
  abbrev ReadOn : (room line : ℕ) → List Entry → (rest more : List ℕ) → BadLine → Type 0
  ReadOn room line entries rest more bad =
      (entry : Entry) → AllByRecursion (IsEntry threads) (entries ++ entry ∷ []) → length more < length rest
      → Reached kind has (lines_to (entries ++ entry ∷ [])) bytes more
      → line + 1 ≡ suc (length (lines_to (entries ++ entry ∷ [])))
      → entries_at room threads (line + 1) more ≡ Err bad → Means kind bytes bad.line bad.why

  next_means : (room line : ℕ) (entries : List Entry) (rest more : List ℕ) (bad : BadLine) (next : Option Entry)
      (words : Line) → AllByRecursion (IsEntry threads) entries → Reached kind has (lines_to entries) bytes rest
      → line ≡ suc (length (lines_to entries)) → rest ≡ line_text words ++ more → IsNext threads words next
      → ReadOn room line entries rest more bad
      → cond (is_none next) (Ok ([], more)) (behind_entries (option_to_list next) (entries_at room threads (line + 1) more))
      ≡ Err bad → Means kind bytes bad.line bad.why
  next_means room line entries rest more bad None words is reached count text said on e = absurd (cc)
  next_means room line entries rest more bad (Some entry) words is reached count text said on e =
      let same = lines_more entries entry in
      let line_is : rest ≡ line_text (entry_line entry) ++ more =
      text ∙ ap (λ (ws : Line). line_text ws ++ more) said.0 in
      let all = all_append (IsEntry threads) entries (entry ∷ []) is (said.1, tt) in
      let walked = entered.walked (entries ++ entry ∷ []) all in
      let behind = reach_on kind has (lines_to entries) (entry_line entry) bytes rest more reached line_is
      (subst (Walked kind has) same walked) in
      let longer : length (lines_to (entries ++ entry ∷ [])) ≡ length (lines_to entries) + 1 =
      ap (λ (ls : List Line). length ls) same ∙ length-append (lines_to entries) (entry_line entry ∷ []) in
      let shorter : length rest ≡ length (line_text (entry_line entry)) + length more =
      ap length line_is ∙ length-append (line_text (entry_line entry)) more in
      let some = line_long (entry_line entry) in
      on entry all (omega (arith, shorter, some))
      (subst (λ (ls : List Line). Reached kind has ls bytes more) (sym same) behind)
      (omega (arith, longer, count)) (prefix_err entry (entries_at room threads (line + 1) more) bad e)

  line_means : (room line : ℕ) (entries : List Entry) (rest : List ℕ) (bad : BadLine)
      → AllByRecursion (IsEntry threads) entries → Reached kind has (lines_to entries) bytes rest
      → line ≡ suc (length (lines_to entries)) → ((more : List ℕ) → ReadOn room line entries rest more bad)
      → (read_line line (entry_or_end threads) rest ≡ Err bad) ⊎ ((x : Option Entry × List ℕ)
      × ((read_line line (entry_or_end threads) rest ≡ Ok x) × (cond (is_none x.0) (Ok ([], x.1))
      (behind_entries (option_to_list x.0) (entries_at room threads (line + 1) x.1)) ≡ Err bad)))
      → Means kind bytes bad.line bad.why
  line_means room line entries rest bad is reached count on (inl e) =
      fails_behind kind has (lines_to entries) bytes rest line (entry_or_end threads) bad reached count
      (entered.refuses entries) (line_err line (entry_or_end threads) rest bad e)
  line_means room line entries rest bad is reached count on (inr x) =
      let l = read_takes line (entry_or_end threads) rest x.0 x.1.0 in
      next_means room line entries rest (x.0).1 bad (x.0).0 l.words is reached count l.text
      (next_takes threads l.words (x.0).0 l.says) (on (x.0).1) x.1.1

  pub entries_mean : (room line : ℕ) (entries : List Entry) (rest : List ℕ) (bad : BadLine) → length rest < room
      → AllByRecursion (IsEntry threads) entries → Reached kind has (lines_to entries) bytes rest
      → line ≡ suc (length (lines_to entries)) → entries_at room threads line rest ≡ Err bad
      → Means kind bytes bad.line bad.why
  unfolding entries_at
  entries_mean zero line entries rest bad lt is reached count h = absurd (omega arith)
  entries_mean (suc room) line entries rest bad lt is reached count h =
      line_means room line entries rest bad is reached count
      (λ more entry all shorter on next e. entries_mean room (line + 1) (entries ++ entry ∷ []) more bad
      (omega (arith, lt, shorter)) all on next e)
      (bind_err (read_line line (entry_or_end threads) rest) (λ x. cond (is_none x.0) (Ok ([], x.1))
      (behind_entries (option_to_list x.0) (entries_at room threads (line + 1) x.1))) bad h)

-- ---- the lines of a trace

-- the first lines of a trace
abbrev pub head_of : (version job rank : ℕ) → List Line
head_of version job rank =
    line_of_number (codes "trace") version ∷ line_of_number (codes "job") job ∷ line_of_number (codes "rank") rank ∷ []

pub head_are : (version job rank : ℕ) → version < 2 ^ 64 → job < 2 ^ 64 → rank < 2 ^ 16
    → AllByRecursion IsLine (head_of version job rank)
head_are version job rank fits few small = (
  number_is_line (codes "trace") version trace_word fits,
  (
    number_is_line (codes "job") job job_word few,
    (number_is_line (codes "rank") rank rank_word (omega arith), tt),
  ),
)
