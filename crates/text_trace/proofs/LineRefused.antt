-- A text of lines that isn't read, line by line: what a refusal means, and that it means no other.
use Rattle.std.proofs.Common.{◌≡◌, ◌⊎◌, inl, inr, ℕ, suc, List, [], ◌∷◌, ◌++◌, length, Bool, true, false}
use Rattle.std.proofs.Common.{eqb, cond, Result, Ok, Err, refl, sym, ap, subst, ◌∙◌, append_assoc}
use Rattle.std.proofs.Common.{append-nil, arith}
use Rattle.std.specs.List.{AllByRecursion}
use Rattle.std.proofs.lemmas.Bool.{eqb-true, eqb-false}
use Rattle.std.proofs.lemmas.List.Concat.{flat_map-append}
use Rattle.text_trace.specs.declared.fault.TraceFault.{TraceFault}
use Rattle.text_trace.specs.declared.fault.TraceFault.TheVariants as faults
use Rattle.base_text.specs.declared.why.LineWhy.{LineWhy}
use Rattle.base_text.specs.declared.why.LineWhy.TheVariants.{Size, Early, Text, Form, Value, Entry, Count, After}
use Rattle.base_text.specs.LineTexts.{Line, IsLine, text_of_words, line_text, spell}
use Rattle.base_text.specs.Chains.{◌>>=◌}
use Rattle.text_trace.specs.TraceReading.{BadLine, at_line, line_at, read_line, words_of}
use Rattle.text_trace.specs.LineRefusals.{Before, EndsEarly, HasNoText, IsAtFault, IsPrefix, IsMeant, IsNoPrefix, IsNoMemory}
use Rattle.text_trace.specs.LineRefusals.{IsWrong, Means, TextKind}
use Rattle.text_trace.proofs.LineLaws.{line_again, line_takes, ok_is, split_joined}
use Rattle.base_lists.proofs.Members.{all_append}

-- ---- results

pub err_is : {A E : Type 0} {x y : E} → ◌≡◌ {A = Result A E} (Err x) (Err y) → x ≡ y
err_is e = cc

pub ok_err : {A E : Type 0} {r : Result A E} {x : A} {y : E} → r ≡ Ok x → r ≡ Err y → ⊥
ok_err h k = cc

-- what fails fails in its first part, or behind it
pub bind_err : {A B E : Type 0} (r : Result A E) (f : A → Result B E) (bad : E) → (r >>= f) ≡ Err bad → (r ≡ Err bad)
    ⊎ ((x : A) × ((r ≡ Ok x) × (f x ≡ Err bad)))
bind_err (Ok x) f bad e = inr (x, (refl, e))
bind_err {A} {B} {E} (Err w) f bad e = inl (ap (λ (y : E). Err y) (err_is {A = B} e))

-- ---- lines that aren't read

-- no line of words begins there
line_at_by : (bytes : List ℕ) (none test : Bool) (found : List ℕ × List ℕ) (why : LineWhy) → eqb (length bytes) 0
    ≡ none → cond none (Err Early) (cond test (Ok found) (Err Text)) ≡ Err why
    → ((why ≡ Early) × (bytes ≡ [])) ⊎ ((why ≡ Text) × (bytes ≡ [] → ⊥))
line_at_by [] true test found why e h = inl (sym (err_is {A = List ℕ × List ℕ} h), refl)
line_at_by (b ∷ bytes) true test found why e h =
    let none = eqb-true (length (b ∷ bytes)) 0 e in absurd (omega (arith, none))
line_at_by bytes false true found why e h = absurd (cc)
line_at_by bytes false false found why e h =
    inr (sym (err_is {A = List ℕ × List ℕ} h), λ none. eqb-false (length bytes) 0 e (ap length none))

line_at_err : (bytes : List ℕ) (why : LineWhy) → line_at bytes ≡ Err why
    → ((why ≡ Early) × (bytes ≡ [])) ⊎ ((why ≡ Text) × (bytes ≡ [] → ⊥))
unfolding line_at
line_at_err bytes why h = line_at_by bytes (eqb (length bytes) 0) _ _ why refl h

-- how the reading of a line fails
pub data LineFails {A : Type 0} (read : Line → Result A LineWhy) (line : ℕ) (bytes : List ℕ) (bad : BadLine)
    : Type 0 where
  AtEnd : bytes ≡ [] → bad ≡ record { line = line; why = Early } → LineFails read line bytes bad
  NoWords : (bytes ≡ [] → ⊥) → ((words : Line) (more : List ℕ) → IsLine words → bytes ≡ line_text words ++ more → ⊥)
      → bad ≡ record { line = line; why = Text } → LineFails read line bytes bad
  Refused : (words : Line) (more : List ℕ) (why : LineWhy) → IsLine words → bytes ≡ line_text words ++ more
      → read words ≡ Err why → bad ≡ record { line = line; why = why } → LineFails read line bytes bad

at_err : {A : Type 0} (line : ℕ) (r : Result A LineWhy) (bad : BadLine) → at_line line r ≡ Err bad
    → (why : LineWhy) × ((r ≡ Err why) × (bad ≡ record { line = line; why = why }))
at_err line (Ok x) bad h = absurd (cc)
at_err {A} line (Err why) bad h = (why, (refl, sym (err_is {A = A} h)))

no_words : (bytes : List ℕ) (why : LineWhy) → line_at bytes ≡ Err why → (words : Line) (more : List ℕ)
    → IsLine words → bytes ≡ line_text words ++ more → ⊥
no_words bytes why h words more is e = ok_err (ap line_at e ∙ line_again words more is) h

by_reason : {A : Type 0} (read : Line → Result A LineWhy) (line : ℕ) (bytes : List ℕ) (bad : BadLine)
    (why : LineWhy) → line_at bytes ≡ Err why → bad ≡ record { line = line; why = why }
    → ((why ≡ Early) × (bytes ≡ [])) ⊎ ((why ≡ Text) × (bytes ≡ [] → ⊥)) → LineFails read line bytes bad
by_reason read line bytes bad why h e (inl none) =
    AtEnd none.1 (e ∙ ap (λ (w : LineWhy). record { line = line; why = w }) none.0)
by_reason read line bytes bad why h e (inr some) =
    NoWords some.1 (no_words bytes why h) (e ∙ ap (λ (w : LineWhy). record { line = line; why = w }) some.0)

by_words : {A : Type 0} (read : Line → Result A LineWhy) (line : ℕ) (bytes : List ℕ) (bad : BadLine)
    (why : LineWhy) (x : List ℕ × List ℕ) → line_at bytes ≡ Ok x → bad ≡ record { line = line; why = why }
    → (read (words_of x.0) ≡ Err why) ⊎ ((a : A) × ((read (words_of x.0) ≡ Ok a)
    × (◌≡◌ {A = Result (A × List ℕ) LineWhy} (Ok (a, x.1)) (Err why)))) → LineFails read line bytes bad
by_words read line bytes bad why x h e (inl r) =
    let is = line_takes bytes x h in
    Refused (words_of x.0) x.1 why is.are is.text r e
by_words read line bytes bad why x h e (inr a) = absurd (ok_err refl a.1.1)

-- what the words of a line say, and the bytes after it
abbrev saying : {A : Type 0} → (Line → Result A LineWhy) → List ℕ × List ℕ → Result (A × List ℕ) LineWhy
saying {A} read x = ◌>>=◌ {B = A × List ℕ} (read (words_of x.0)) (λ a. Ok (a, x.1))

by_parts : {A : Type 0} (read : Line → Result A LineWhy) (line : ℕ) (bytes : List ℕ) (bad : BadLine)
    (why : LineWhy) → bad ≡ record { line = line; why = why } → (line_at bytes ≡ Err why)
    ⊎ ((x : List ℕ × List ℕ) × ((line_at bytes ≡ Ok x) × (saying read x ≡ Err why))) → LineFails read line bytes bad
by_parts read line bytes bad why e (inl h) = by_reason read line bytes bad why h e (line_at_err bytes why h)
by_parts {A} read line bytes bad why e (inr x) =
    by_words read line bytes bad why x.0 x.1.0 e (bind_err {B = A × List ℕ} (read (words_of x.0.0))
    (λ a. Ok (a, x.0.1)) why x.1.1)

pub line_err : {A : Type 0} (line : ℕ) (read : Line → Result A LineWhy) (bytes : List ℕ) (bad : BadLine)
    → read_line line read bytes ≡ Err bad → LineFails read line bytes bad
line_err {A} line read bytes bad h =
    let told = at_err line (◌>>=◌ {B = A × List ℕ} (line_at bytes) (saying read)) bad h in
    by_parts read line bytes bad told.0 told.1.1 (bind_err {B = A × List ℕ} (line_at bytes) (saying read) told.0
    told.1.0)

-- ---- a text has its lines in one way

pair_is : {a b x y : List ℕ} → ◌≡◌ {A = Result (List ℕ × List ℕ) LineWhy} (Ok (a, x)) (Ok (b, y)) → (a ≡ b) × (x ≡ y)
pair_is {a} {b} {x} {y} e =
    let same : ◌≡◌ {A = List ℕ × List ℕ} (a, x) (b, y) = ok_is (a, x) (b, y) e in
    (ap (λ (p : List ℕ × List ℕ). p.0) same, ap (λ (p : List ℕ × List ℕ). p.1) same)

pub line_same : (a b : Line) (x y : List ℕ) → IsLine a → IsLine b → line_text a ++ x ≡ line_text b ++ y → (a ≡ b) × (x ≡ y)
line_same a b x y first second e =
    let same = pair_is (sym (line_again a x first) ∙ ap line_at e ∙ line_again b y second) in
    (sym (split_joined a first) ∙ ap words_of same.0 ∙ split_joined b second, same.1)

pub no_text : (line : Line) (rest : List ℕ) → line_text line ++ rest ≡ [] → ⊥
no_text line rest e = some_bytes (text_of_words line) rest e
  where
    some_bytes : (prefix rest : List ℕ) → (prefix ++ 10 ∷ []) ++ rest ≡ [] → ⊥
    some_bytes [] rest e = cc
    some_bytes (b ∷ prefix) rest e = cc

pub begin_same : (all lines : List Line) (more : List ℕ) → AllByRecursion IsLine all → AllByRecursion IsLine lines
    → spell all ≡ spell lines ++ more → (others : List Line) × (all ≡ lines ++ others)
begin_same all [] more first second e = (all, refl)
begin_same [] (line ∷ lines) more first second e =
    absurd (no_text line (spell lines ++ more) (sym (append_assoc (line_text line) (spell lines) more) ∙ sym e))
begin_same (one ∷ all) (line ∷ lines) more first second e =
    let same = line_same one line (spell all) (spell lines ++ more) first.0 second.0
    (e ∙ append_assoc (line_text line) (spell lines) more) in
    let later = begin_same all lines more first.1 second.1 same.1 in
    (later.0, ap (λ (ls : List Line). one ∷ ls) later.1 ∙ ap (λ (l : Line). l ∷ (lines ++ later.0)) same.0)

-- a text with one more line
pub spelled_more : (lines : List Line) (line : Line) (rest : List ℕ) → spell (lines ++ line ∷ []) ++ rest
    ≡ spell lines ++ (line_text line ++ rest)
spelled_more lines line rest =
    ap (λ (t : List ℕ). t ++ rest) (flat_map-append line_text lines (line ∷ []) ∙ ap (λ (t : List ℕ). spell lines ++ t)
    (append-nil (line_text line))) ∙ append_assoc (spell lines) (line_text line) rest

-- what is wrong with words that may stand at a place
pub data Wrongly (Form_of May : Line → Type 0) (words : Line) (why : LineWhy) : Type 0 where
  NoForm : why ≡ Form → (Form_of words → ⊥) → Wrongly Form_of May words why
  NoValue : why ≡ Value → Form_of words → (May words → ⊥) → Wrongly Form_of May words why

-- a reader of the lines at a place
abbrev pub Refuses : {R : Type 0} → (Form_of May : Line → Type 0) → (Line → Result R LineWhy) → Type 0
Refuses Form_of May read = (words : Line) (why : LineWhy) → read words ≡ Err why → Wrongly Form_of May words why

-- ---- texts of a kind, as lines

-- each text of the kind is lines, which may stand where they do; and none begins with another
pub record HasLines {A : Type 0} (kind : TextKind A) : Type 0 where
  pub lines_of : A → List Line
  pub text_is : (one : A) → kind.text_of one ≡ spell (lines_of one)
  pub are : (one : A) → kind.IsOne one → AllByRecursion IsLine (lines_of one)
  pub stands : (one : A) → kind.IsOne one → (lines others : List Line) (words : Line)
      → lines_of one ≡ lines ++ words ∷ others → kind.MayStand lines words
  pub form_of : (lines : List Line) (words : Line) → kind.MayStand lines words → kind.HasForm lines words
  pub alone : (one other : A) (more : List ℕ) → kind.IsOne one → kind.IsOne other
      → kind.text_of other ≡ kind.text_of one ++ more → more ≡ []

-- lines that were read so far
pub record Walked {A : Type 0} (kind : TextKind A) (has : HasLines kind) (lines : List Line) : Type 0 where
  pub one : A
  pub is : kind.IsOne one
  pub next : Line
  pub others : List Line
  pub all : has.lines_of one ≡ lines ++ next ∷ others
  pub are : AllByRecursion IsLine lines

pub record Reached {A : Type 0} (kind : TextKind A) (has : HasLines kind) (lines : List Line) (bytes rest : List ℕ)
    : Type 0 where
  pub walked : Walked kind has lines
  pub text : bytes ≡ spell lines ++ rest

module _ {A : Type 0} (kind : TextKind A) (has : HasLines kind) where
  pub reach_on : (lines : List Line) (line : Line) (bytes rest more : List ℕ) → Reached kind has lines bytes rest
      → rest ≡ line_text line ++ more → Walked kind has (lines ++ line ∷ [])
      → Reached kind has (lines ++ line ∷ []) bytes more
  reach_on lines line bytes rest more reached e walked = record {
    walked = walked;
    text = reached.text ∙ ap (λ (t : List ℕ). spell lines ++ t) e ∙ sym (spelled_more lines line more);
  }

  abbrev prefix_of : (lines : List Line) → Walked kind has lines → IsPrefix kind (spell lines)
  prefix_of lines walked = record {
    one = walked.one;
    more = spell (walked.next ∷ walked.others);
    is = walked.is;
    text = has.text_is walked.one ∙ ap spell walked.all
        ∙ flat_map-append line_text lines (walked.next ∷ walked.others);
    goes_on = no_text walked.next (spell walked.others);
  }

  abbrev before_of : (lines : List Line) (bytes rest : List ℕ) (line : ℕ) → Reached kind has lines bytes rest
      → line ≡ suc (length lines) → Before bytes line
  before_of lines bytes rest line reached count = record {
    lines = lines;
    rest = rest;
    are = reached.walked.are;
    text = reached.text;
    count = count;
  }

  -- no text goes on with a line that may not stand there
  none_with : (lines : List Line) (words : Line) → AllByRecursion IsLine lines → IsLine words
      → (kind.MayStand lines words → ⊥) → IsNoPrefix kind (spell (lines ++ words ∷ []))
  none_with lines words are is none one more is_one e =
      let begun = begin_same (has.lines_of one) (lines ++ words ∷ []) more (has.are one is_one)
      (all_append IsLine lines (words ∷ []) are (is, tt)) (sym (has.text_is one) ∙ e) in
      none (has.stands one is_one lines begun.0 words (begun.1 ∙ append_assoc lines (words ∷ []) begun.0))

  wrong_by : (lines : List Line) (bytes rest : List ℕ) (line : ℕ) → Reached kind has lines bytes rest
      → line ≡ suc (length lines) → (words : Line) (more : List ℕ) (why : LineWhy) → IsLine words
      → rest ≡ line_text words ++ more → Wrongly (kind.HasForm lines) (kind.MayStand lines) words why
      → Means kind bytes line why
  wrong_by lines bytes rest line reached count words more why is text (NoForm form unlike) =
      let wrong : IsWrong kind bytes line Form = record {
        before = before_of lines bytes rest line reached count;
        prefix = prefix_of lines reached.walked;
        words = words;
        are = is;
        more = more;
        text = text;
        none = none_with lines words reached.walked.are is (λ may. unlike (has.form_of lines words may));
        fault = unlike;
      } in
      subst (Means kind bytes line) (sym form) wrong
  wrong_by lines bytes rest line reached count words more why is text (NoValue value form unlike) =
      let wrong : IsWrong kind bytes line Value = record {
        before = before_of lines bytes rest line reached count;
        prefix = prefix_of lines reached.walked;
        words = words;
        are = is;
        more = more;
        text = text;
        none = none_with lines words reached.walked.are is unlike;
        fault = (form, unlike);
      } in
      subst (Means kind bytes line) (sym value) wrong

  -- a line fails behind these
  pub fails_behind : {R : Type 0} (lines : List Line) (bytes rest : List ℕ) (line : ℕ) (read : Line → Result R LineWhy)
      (bad : BadLine) → Reached kind has lines bytes rest → line ≡ suc (length lines)
      → Refuses (kind.HasForm lines) (kind.MayStand lines) read → LineFails read line rest bad
      → Means kind bytes bad.line bad.why
  fails_behind lines bytes rest line read bad reached count refuses (AtEnd empty e) =
      let early : EndsEarly kind bytes line = record {
        before = before_of lines bytes rest line reached count;
        prefix = prefix_of lines reached.walked;
        none = empty;
      } in
      subst (λ (b : BadLine). Means kind bytes b.line b.why) (sym e) early
  fails_behind lines bytes rest line read bad reached count refuses (NoWords some none e) =
      let no_words : HasNoText kind bytes line = record {
        before = before_of lines bytes rest line reached count;
        prefix = prefix_of lines reached.walked;
        some = some;
        no_text = none;
      } in
      subst (λ (b : BadLine). Means kind bytes b.line b.why) (sym e) no_words
  fails_behind lines bytes rest line read bad reached count refuses (Refused words more why is text h e) =
      subst (λ (b : BadLine). Means kind bytes b.line b.why) (sym e)
      (wrong_by lines bytes rest line reached count words more why is text (refuses words why h))

  -- ---- no two refusals

  -- how the reading stops behind these lines, before this rest
  data Stops (lines : List Line) (rest : List ℕ) (why : LineWhy) : Type 0 where
    AtNone : rest ≡ [] → why ≡ Early → Stops lines rest why
    AtBytes : (rest ≡ [] → ⊥) → ((words : Line) (more : List ℕ) → IsLine words → rest ≡ line_text words ++ more → ⊥)
        → why ≡ Text → Stops lines rest why
    AtLine : (words : Line) (more : List ℕ) → IsLine words → rest ≡ line_text words ++ more
        → IsNoPrefix kind (spell (lines ++ words ∷ [])) → IsAtFault kind why lines words → Stops lines rest why

  record StopsAt (bytes : List ℕ) (line : ℕ) (why : LineWhy) : Type 0 where
    pub before : Before bytes line
    pub prefix : IsPrefix kind (spell before.lines)
    pub stops : Stops before.lines before.rest why

  stops_at : (bytes : List ℕ) (line : ℕ) (why : LineWhy) → Means kind bytes line why → StopsAt bytes line why
  stops_at bytes line Early m = record { before = m.before; prefix = m.prefix; stops = AtNone m.none refl }
  stops_at bytes line Text m = record { before = m.before; prefix = m.prefix; stops = AtBytes m.some m.no_text refl }
  stops_at bytes line Size m = absurd m.fault
  stops_at bytes line Entry m = absurd m.fault
  stops_at bytes line Count m = absurd m.fault
  stops_at bytes line After m = absurd m.fault
  stops_at bytes line Form m = record {
    before = m.before;
    prefix = m.prefix;
    stops = AtLine m.words m.more m.are m.text m.none m.fault;
  }
  stops_at bytes line Value m = record {
    before = m.before;
    prefix = m.prefix;
    stops = AtLine m.words m.more m.are m.text m.none m.fault;
  }

  -- one begins with the other and another line, or they are the same
  record Longer (less more : List Line) (rest left : List ℕ) : Type 0 where
    pub words : Line
    pub others : List Line
    pub is : IsLine words
    pub more_is : more ≡ less ++ words ∷ others
    pub rest_is : rest ≡ line_text words ++ (spell others ++ left)

  data Compared (one two : List Line) (rest left : List ℕ) : Type 0 where
    Same : one ≡ two → rest ≡ left → Compared one two rest left
    First : Longer two one left rest → Compared one two rest left
    Second : Longer one two rest left → Compared one two rest left

  on_compared : (a b : Line) (one two : List Line) (rest left : List ℕ) → a ≡ b → Compared one two rest left
      → Compared (a ∷ one) (b ∷ two) rest left
  on_compared a b one two rest left e (Same lines rests) =
      Same (ap (λ (l : Line). l ∷ one) e ∙ ap (λ (ls : List Line). b ∷ ls) lines) rests
  on_compared a b one two rest left e (First longer) = First (record {
    words = longer.words;
    others = longer.others;
    is = longer.is;
    more_is = ap (λ (l : Line). l ∷ one) e ∙ ap (λ (ls : List Line). b ∷ ls) longer.more_is;
    rest_is = longer.rest_is;
  })
  on_compared a b one two rest left e (Second longer) = Second (record {
    words = longer.words;
    others = longer.others;
    is = longer.is;
    more_is = ap (λ (l : Line). l ∷ two) (sym e) ∙ ap (λ (ls : List Line). a ∷ ls) longer.more_is;
    rest_is = longer.rest_is;
  })

  compared : (one two : List Line) (rest left : List ℕ) → AllByRecursion IsLine one → AllByRecursion IsLine two
      → spell one ++ rest ≡ spell two ++ left → Compared one two rest left
  compared [] [] rest left first second e = Same refl e
  compared [] (b ∷ two) rest left first second e = Second (record {
    words = b;
    others = two;
    is = second.0;
    more_is = refl;
    rest_is = e ∙ append_assoc (line_text b) (spell two) left;
  })
  compared (a ∷ one) [] rest left first second e = First (record {
    words = a;
    others = one;
    is = first.0;
    more_is = refl;
    rest_is = sym e ∙ append_assoc (line_text a) (spell one) rest;
  })
  compared (a ∷ one) (b ∷ two) rest left first second e =
      let same = line_same a b (spell one ++ rest) (spell two ++ left) first.0 second.0
      (sym (append_assoc (line_text a) (spell one) rest) ∙ e ∙ append_assoc (line_text b) (spell two) left) in
      on_compared a b one two rest left same.0 (compared one two rest left first.1 second.1 same.1)

  -- reading doesn't stop where another line of some text follows
  no_stop : (lines : List Line) (rest : List ℕ) (why : LineWhy) → Stops lines rest why → (words : Line)
      (others : List Line) (left more : List ℕ) (one : A) → IsLine words → rest ≡ line_text words ++ left
      → kind.IsOne one → kind.text_of one ≡ spell (lines ++ words ∷ others) ++ more → ⊥
  no_stop lines rest why (AtNone none is_early) words others left more one is text is_one whole =
      no_text words left (sym text ∙ none)
  no_stop lines rest why (AtBytes some none is_text) words others left more one is text is_one whole =
      none words left is text
  no_stop lines rest why (AtLine bad after is_bad at none fault) words others left more one is text is_one whole =
      let same = line_same words bad left after is is_bad (sym text ∙ at) in
      let cut : spell (lines ++ words ∷ others) ≡ spell (lines ++ words ∷ []) ++ spell others =
      ap spell (sym (append_assoc lines (words ∷ []) others)) ∙ flat_map-append line_text (lines ++ words ∷ []) others in
      none one (spell others ++ more) is_one (whole ∙ ap (λ (t : List ℕ). t ++ more) cut
      ∙ append_assoc (spell (lines ++ words ∷ [])) (spell others) more
      ∙ ap (λ (w : Line). spell (lines ++ w ∷ []) ++ (spell others ++ more)) same.0)

  -- at one place one reason applies
  same_reason : (lines : List Line) (words : Line) (one two : LineWhy) → IsAtFault kind one lines words
      → IsAtFault kind two lines words → one ≡ two
  same_reason lines words Form Form first second = refl
  same_reason lines words Form Value first second = absurd (first second.0)
  same_reason lines words Value Form first second = absurd (second first.0)
  same_reason lines words Value Value first second = refl
  same_reason lines words Early two first second = absurd first
  same_reason lines words Text two first second = absurd first
  same_reason lines words Size two first second = absurd first
  same_reason lines words Entry two first second = absurd first
  same_reason lines words Count two first second = absurd first
  same_reason lines words After two first second = absurd first
  same_reason lines words Form Early first second = absurd second
  same_reason lines words Form Text first second = absurd second
  same_reason lines words Value Early first second = absurd second
  same_reason lines words Value Text first second = absurd second
  same_reason lines words Form Size first second = absurd second
  same_reason lines words Form Entry first second = absurd second
  same_reason lines words Form Count first second = absurd second
  same_reason lines words Form After first second = absurd second
  same_reason lines words Value Size first second = absurd second
  same_reason lines words Value Entry first second = absurd second
  same_reason lines words Value Count first second = absurd second
  same_reason lines words Value After first second = absurd second

  stop_once : (lines : List Line) (rest : List ℕ) (one two : LineWhy) → Stops lines rest one → Stops lines rest two
      → one ≡ two
  stop_once lines rest one two (AtNone none first) (AtNone again second) = first ∙ sym second
  stop_once lines rest one two (AtNone none first) (AtBytes some wordless second) = absurd (some none)
  stop_once lines rest one two (AtNone none first) (AtLine words more is text unlike fault) =
      absurd (no_text words more (sym text ∙ none))
  stop_once lines rest one two (AtBytes some wordless first) (AtNone none second) = absurd (some none)
  stop_once lines rest one two (AtBytes some wordless first) (AtBytes any no_more second) = first ∙ sym second
  stop_once lines rest one two (AtBytes some wordless first) (AtLine words more is text unlike fault) =
      absurd (wordless words more is text)
  stop_once lines rest one two (AtLine words more is text unlike fault) (AtNone none second) =
      absurd (no_text words more (sym text ∙ none))
  stop_once lines rest one two (AtLine words more is text unlike fault) (AtBytes some wordless second) =
      absurd (wordless words more is text)
  stop_once lines rest one two (AtLine words more is text unlike fault) (AtLine other after is_too at none wrong) =
      let same = line_same words other more after is is_too (sym text ∙ at) in
      same_reason lines words one two fault (subst (IsAtFault kind two lines) (sym same.0) wrong)

  -- a line and a reason
  abbrev SameBad : (line other : ℕ) → (why reason : LineWhy) → Type 0
  SameBad line other why reason = (line ≡ other) × (why ≡ reason)

  stops_once : (bytes : List ℕ) (line other : ℕ) (why reason : LineWhy) (one : StopsAt bytes line why)
      (two : StopsAt bytes other reason)
      → Compared one.before.lines two.before.lines one.before.rest two.before.rest → SameBad line other why reason
  stops_once bytes line other why reason one two (Same lines rests) =
      let first = subst (λ (ls : List Line). Stops ls one.before.rest why) lines one.stops in
      let moved = subst (λ (r : List ℕ). Stops two.before.lines r why) rests first in (
        one.before.count ∙ ap (λ (ls : List Line). suc (length ls)) lines ∙ sym two.before.count,
        stop_once two.before.lines two.before.rest why reason moved two.stops,
      )
  stops_once bytes line other why reason one two (First longer) =
      absurd (no_stop two.before.lines two.before.rest reason two.stops longer.words longer.others
      (spell longer.others ++ one.before.rest) one.prefix.more one.prefix.one longer.is longer.rest_is one.prefix.is
      (one.prefix.text ∙ ap (λ (ls : List Line). spell ls ++ one.prefix.more) longer.more_is))
  stops_once bytes line other why reason one two (Second longer) =
      absurd (no_stop one.before.lines one.before.rest why one.stops longer.words longer.others
      (spell longer.others ++ two.before.rest) two.prefix.more two.prefix.one longer.is longer.rest_is two.prefix.is
      (two.prefix.text ∙ ap (λ (ls : List Line). spell ls ++ two.prefix.more) longer.more_is))

  pub means_once : (bytes : List ℕ) (line other : ℕ) (why reason : LineWhy) → Means kind bytes line why
      → Means kind bytes other reason → SameBad line other why reason
  means_once bytes line other why reason first second =
      let one = stops_at bytes line why first in
      let two = stops_at bytes other reason second in
      stops_once bytes line other why reason one two
      (compared one.before.lines two.before.lines one.before.rest two.before.rest one.before.are two.before.are
      (sym one.before.text ∙ two.before.text))

  -- ---- where a text is read, none is refused

  stops_no_text : (bytes : List ℕ) (line : ℕ) (why : LineWhy) (stops : StopsAt bytes line why) (one : A)
      (rest : List ℕ) → kind.IsOne one
      → Compared stops.before.lines (has.lines_of one) stops.before.rest rest → ⊥
  stops_no_text bytes line why stops one rest is (Same lines rests) =
      stops.prefix.goes_on (has.alone one stops.prefix.one stops.prefix.more is stops.prefix.is
      (stops.prefix.text ∙ ap (λ (ls : List Line). spell ls ++ stops.prefix.more) lines
      ∙ ap (λ (t : List ℕ). t ++ stops.prefix.more) (sym (has.text_is one))))
  stops_no_text bytes line why stops one rest is (First longer) =
      let more = line_text longer.words ++ (spell longer.others ++ stops.prefix.more) in
      let begins : kind.text_of stops.prefix.one ≡ kind.text_of one ++ more =
      stops.prefix.text ∙ ap (λ (ls : List Line). spell ls ++ stops.prefix.more) longer.more_is
      ∙ ap (λ (t : List ℕ). t ++ stops.prefix.more)
      (flat_map-append line_text (has.lines_of one) (longer.words ∷ longer.others))
      ∙ append_assoc (spell (has.lines_of one)) (spell (longer.words ∷ longer.others)) stops.prefix.more
      ∙ ap (λ (t : List ℕ). spell (has.lines_of one) ++ t)
      (append_assoc (line_text longer.words) (spell longer.others) stops.prefix.more)
      ∙ ap (λ (t : List ℕ). t ++ more) (sym (has.text_is one)) in
      no_text longer.words (spell longer.others ++ stops.prefix.more)
      (has.alone one stops.prefix.one more is stops.prefix.is begins)
  stops_no_text bytes line why stops one rest is (Second longer) =
      no_stop stops.before.lines stops.before.rest why stops.stops longer.words longer.others
      (spell longer.others ++ rest) [] one longer.is longer.rest_is is
      (has.text_is one ∙ ap spell longer.more_is ∙ sym (append-nil (spell (stops.before.lines ++ longer.words ∷ longer.others))))

  pub means_no_text : (bytes : List ℕ) (line : ℕ) (why : LineWhy) (one : A) (rest : List ℕ)
      → Means kind bytes line why → kind.IsOne one → bytes ≡ kind.text_of one ++ rest → ⊥
  means_no_text bytes line why one rest means is text =
      let stops = stops_at bytes line why means in
      stops_no_text bytes line why stops one rest is
      (compared stops.before.lines (has.lines_of one) stops.before.rest rest stops.before.are (has.are one is)
      (sym stops.before.text ∙ text ∙ ap (λ (t : List ℕ). t ++ rest) (has.text_is one)))

  -- what a reader told is the only refusal
  pub told_by : (bytes : List ℕ) (fault : TraceFault) (line : ℕ) (why : LineWhy) → IsMeant kind bytes fault
      → Means kind bytes line why → IsNoMemory fault ⊎ (fault ≡ faults.Bad line why)
  told_by bytes faults.NoMemory line why meant means = inl tt
  told_by bytes (faults.Bad at reason) line why meant means =
      let same = means_once bytes at line reason why meant means in
      inr (ap (λ (n : ℕ). faults.Bad n reason) same.0 ∙ ap (λ (w : LineWhy). faults.Bad line w) same.1)
