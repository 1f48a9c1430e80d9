-- The lines of pairs and of handlers, as loops read them.
use Rattle.std.proofs.Common.{◌≡◌, ℕ, ◌+◌, List, Option, Some, None, Result, Ok, Err, Bool, true, false}
use Rattle.std.proofs.Common.{refl, sym, ap, ◌∙◌, codes}
use Rattle.std.specs.Str.{bytes_eq}
use Rattle.text_job.specs.Scopes.{scope_of}
use Rattle.text_calls.specs.declared.scope.Scope.{Scope}
use Rattle.wire_message.specs.declared.pairs.PairCredits.{PairCredits}
use Rattle.base_text.specs.Lines.{◌>>=◌, first_word, after_newline}
use Rattle.base_text.specs.Reasons.{reason, why_of}
use Rattle.text_job.specs.Places.{NamedOr, Named, Other, AtAtomics, atomics_at, atomics_or_later_at}
use Rattle.text_job.specs.Places.{atomics_or_later_form, AtCollect, collect_at, collect_or_later_at}
use Rattle.text_job.specs.Places.{collect_or_later_form}
use Rattle.text_job.specs.Places.{Place, AtPairs, AtHandlers, AtBody, AtScripts, Item, item_form, named_or}
use Rattle.text_job.specs.Places.{header_at}
use Rattle.text_job.specs.Places.{section_at, pair_at, header_or_section_at, header_or_section_form}
use Rattle.text_job.specs.Places.{pairs_form}
use Rattle.text_job.specs.JobReading.{State, item_of_line, line_at, next, new_handler, handler_why, pair_why, with_atomics}
use Rattle.text_job.specs.JobReading.{with_collect, with_own, read}
use Rattle.base_text.specs.declared.why.LineWhy.{LineWhy}
use Rattle.text_job.specs.declared.job.CollectArea.{CollectArea}
use Rattle.text_job.specs.declared.job.Job.{Job}
use Rattle.text_job.specs.declared.sections.HandlerHeader.{HandlerHeader}
use Rattle.text_job.proofs.LineRuns.{Refuses, read_on, read_full, line_bad}

-- what was read, in other words
mapped_end : {A B : Type 0} (o : Option (List ℕ)) (f : A → B) (x : A) → ◌≡◌ {A = Option (B × List ℕ)}
    (o >>= λ r. Some (f x, r)) (◌>>=◌ {B = B × List ℕ} (◌>>=◌ {B = A × List ℕ} o (λ r. Some (x, r))) (λ y. Some
    (f y.0, y.1)))
mapped_end None f x = refl
mapped_end (Some r) f x = refl

pub mapped : {A B : Type 0} (o : Option (A × List ℕ)) (f : A → B) → ◌>>=◌ {B = B × List ℕ}
    (◌>>=◌ {B = B × List ℕ} o (λ x. Some (f x.0, x.1))) (λ i. ◌>>=◌ {B = B × List ℕ} (after_newline i.1) (λ r. Some (i.0, r)))
    ≡ ◌>>=◌ {B = B × List ℕ} (◌>>=◌ {B = A × List ℕ} o (λ i. ◌>>=◌ {B = A × List ℕ} (after_newline i.1) (λ r. Some
    (i.0, r)))) (λ x. Some (f x.0, x.1))
mapped None f = refl
mapped (Some x) f = mapped_end (after_newline x.1) f x.0

-- a line that begins with the name, and one that doesn't
named_line : {A B : Type 0} (name : List ℕ) (at : List ℕ → Option (A × List ℕ)) (other : List ℕ → Option
    (B × List ℕ)) (bytes : List ℕ) → bytes_eq (first_word bytes) name ≡ true → item_of_line (named_or name at other) bytes
    ≡ ◌>>=◌ {B = NamedOr A B × List ℕ} (item_of_line at bytes) (λ x. Some (Named x.0, x.1))
named_line {A} {B} name at other bytes b = rw b (mapped {A = A} {B = NamedOr A B} (at bytes) (λ x. Named x))

other_line : {A B : Type 0} (name : List ℕ) (at : List ℕ → Option (A × List ℕ)) (other : List ℕ → Option
    (B × List ℕ)) (bytes : List ℕ) → bytes_eq (first_word bytes) name ≡ false → item_of_line (named_or name at other) bytes
    ≡ ◌>>=◌ {B = NamedOr A B × List ℕ} (item_of_line other bytes) (λ x. Some (Other x.0, x.1))
other_line {A} {B} name at other bytes b = rw b (mapped {A = B} {B = NamedOr A B} (other bytes) (λ x. Other x))

pair_line : (scope : Scope) (bytes : List ℕ) → bytes_eq (first_word bytes) (codes "pair") ≡ true
    → line_at AtPairs scope bytes ≡ (item_of_line (pair_at scope.settings) bytes >>= λ x. Some (Named x.0, x.1))
pair_line scope bytes b =
    named_line (codes "pair") (pair_at scope.settings) (atomics_or_later_at scope) bytes b

atomics_line : (scope : Scope) (bytes : List ℕ) → bytes_eq (first_word bytes) (codes "atomics") ≡ true
    → line_at AtAtomics scope bytes ≡ (item_of_line (atomics_at scope) bytes >>= λ x. Some (Named x.0, x.1))
atomics_line scope bytes b =
    named_line (codes "atomics") (atomics_at scope) (collect_or_later_at scope) bytes b

collect_line : (scope : Scope) (bytes : List ℕ) → bytes_eq (first_word bytes) (codes "collect") ≡ true
    → line_at AtCollect scope bytes ≡ (item_of_line (collect_at scope) bytes >>= λ x. Some (Named x.0, x.1))
collect_line scope bytes b =
    named_line (codes "collect") (collect_at scope) (header_or_section_at scope.settings) bytes b

header_line : (scope : Scope) (bytes : List ℕ) → bytes_eq (first_word bytes) (codes "handler") ≡ true
    → line_at AtHandlers scope bytes ≡ (item_of_line header_at bytes >>= λ x. Some (Named x.0, x.1))
header_line scope bytes b =
    named_line (codes "handler") header_at (section_at scope.settings.nodes scope.settings.threads) bytes b

-- ---- pairs

-- a pair is read, and there is room for it
pub pair_read : (job : Job) (line : ℕ) (bytes rest : List ℕ) (pair : PairCredits) → bytes_eq (first_word bytes)
    (codes "pair") ≡ true → item_of_line (pair_at job.settings) bytes ≡ Some (pair, rest) → pair_why job.settings.pairs pair
    ≡ None
    → read (record { place = AtPairs; job = job }) line bytes ≡ read
    (record { place = AtPairs; job = with_own pair job }) (line + 1) rest
pair_read job line bytes rest pair b h w =
    read_on AtPairs job line bytes rest (Named pair) (record { place = AtPairs; job = with_own pair job })
    (pair_line (scope_of job) bytes b ∙ rw h refl) (rw w refl)

-- a pair is read, and may not stand there
pub pair_full : (job : Job) (line : ℕ) (bytes rest : List ℕ) (pair : PairCredits) (why : LineWhy) → bytes_eq
    (first_word bytes) (codes "pair") ≡ true → item_of_line (pair_at job.settings) bytes ≡ Some (pair, rest)
    → pair_why job.settings.pairs pair ≡ Some why
    → read (record { place = AtPairs; job = job }) line bytes ≡ Err (record { line = line; why = why })
pair_full job line bytes rest pair why b h w =
    read_full AtPairs job line bytes rest (Named pair) why (pair_line (scope_of job) bytes b ∙ rw h refl) (rw w refl)

-- a pair isn't read
pub pair_bad : (job : Job) (line : ℕ) (bytes : List ℕ) → bytes_eq (first_word bytes) (codes "pair") ≡ true → item_of_line
    (pair_at job.settings) bytes ≡ None
    → read (record { place = AtPairs; job = job }) line bytes ≡ Err
    (record { line = line; why = reason (pairs_form (scope_of job)) bytes })
pair_bad job line bytes b h = line_bad AtPairs tt job line bytes (pair_line (scope_of job) bytes b ∙ rw h refl)

-- ---- atomics

-- the line of atomics is read
pub atomics_read : (job : Job) (line : ℕ) (bytes rest : List ℕ) → bytes_eq (first_word bytes) (codes "atomics") ≡ true
    → item_of_line (atomics_at (scope_of job)) bytes ≡ Some (tt, rest)
    → read (record { place = AtAtomics; job = job }) line bytes ≡ read
    (record { place = AtCollect; job = with_atomics job }) (line + 1) rest
atomics_read job line bytes rest b h =
    read_on AtAtomics job line bytes rest (Named tt) (record { place = AtCollect; job = with_atomics job })
    (atomics_line (scope_of job) bytes b ∙ rw h refl) refl

-- it isn't read
pub atomics_bad : (job : Job) (line : ℕ) (bytes : List ℕ) → bytes_eq (first_word bytes) (codes "atomics") ≡ true
    → item_of_line (atomics_at (scope_of job)) bytes ≡ None
    → read (record { place = AtAtomics; job = job }) line bytes ≡ Err
    (record { line = line; why = reason (atomics_or_later_form (scope_of job)) bytes })
atomics_bad job line bytes b h =
    line_bad AtAtomics tt job line bytes (atomics_line (scope_of job) bytes b ∙ rw h refl)

-- ---- collectives

-- the line of collectives is read
pub collect_read : (job : Job) (line : ℕ) (bytes rest : List ℕ) (area : CollectArea)
    → bytes_eq (first_word bytes) (codes "collect") ≡ true → item_of_line (collect_at (scope_of job)) bytes ≡ Some (area, rest)
    → read (record { place = AtCollect; job = job }) line bytes ≡ read
    (record { place = AtHandlers; job = with_collect area job }) (line + 1) rest
collect_read job line bytes rest area b h =
    read_on AtCollect job line bytes rest (Named area) (record { place = AtHandlers; job = with_collect area job })
    (collect_line (scope_of job) bytes b ∙ rw h refl) refl

-- it isn't read
pub collect_bad : (job : Job) (line : ℕ) (bytes : List ℕ) → bytes_eq (first_word bytes) (codes "collect") ≡ true
    → item_of_line (collect_at (scope_of job)) bytes ≡ None
    → read (record { place = AtCollect; job = job }) line bytes ≡ Err
    (record { line = line; why = reason (collect_or_later_form (scope_of job)) bytes })
collect_bad job line bytes b h =
    line_bad AtCollect tt job line bytes (collect_line (scope_of job) bytes b ∙ rw h refl)

-- ---- handlers

-- the first line of a handler is read, and there is room for it
pub handler_read : (job : Job) (line : ℕ) (bytes rest : List ℕ) (header : HandlerHeader) → bytes_eq (first_word bytes)
    (codes "handler") ≡ true → item_of_line header_at bytes ≡ Some (header, rest) → handler_why (scope_of job) job.handlers header.index
    ≡ None
    → read (record { place = AtHandlers; job = job }) line bytes ≡ read
    (record { place = AtBody (new_handler header); job = job }) (line + 1) rest
handler_read job line bytes rest header b h w =
    read_on AtHandlers job line bytes rest (Named header) (record { place = AtBody (new_handler header); job = job })
    (header_line (scope_of job) bytes b ∙ rw h refl) (rw w refl)

-- it is read, and may not stand there
pub handler_full : (job : Job) (line : ℕ) (bytes rest : List ℕ) (header : HandlerHeader) (why : LineWhy) → bytes_eq
    (first_word bytes) (codes "handler") ≡ true → item_of_line header_at bytes ≡ Some (header, rest)
    → handler_why (scope_of job) job.handlers header.index ≡ Some why
    → read (record { place = AtHandlers; job = job }) line bytes ≡ Err (record { line = line; why = why })
handler_full job line bytes rest header why b h w =
    read_full AtHandlers job line bytes rest (Named header) why (header_line (scope_of job) bytes b ∙ rw h refl)
    (rw w refl)

-- it isn't read
pub handler_bad : (job : Job) (line : ℕ) (bytes : List ℕ) → bytes_eq (first_word bytes) (codes "handler") ≡ true
    → item_of_line header_at bytes ≡ None
    → read (record { place = AtHandlers; job = job }) line bytes ≡ Err
    (record { line = line; why = reason header_or_section_form bytes })
handler_bad job line bytes b h = line_bad AtHandlers tt job line bytes (header_line (scope_of job) bytes b ∙ rw h refl)

-- ---- what is read behind them is read among them

-- at one place a line says what it says at another
pub record IsSameLine (here there : Place) (job : Job) (bytes : List ℕ) : Type 0 where
  pub here_as : Item there → Item here
  pub next_is : (item : Item there) → next here job (here_as item) ≡ next there job item
  pub line_is : line_at here (scope_of job) bytes
      ≡ ◌>>=◌ {B = Item here × List ℕ} (line_at there (scope_of job) bytes) (λ x. Some (here_as x.0, x.1))
  pub form_is : item_form here (scope_of job) bytes ≡ item_form there (scope_of job) bytes
  pub bad_here : Refuses here
  pub bad_there : Refuses there

same_ok : (here there : Place) (job : Job) (line : ℕ) (bytes rest : List ℕ) (item : Item there)
    (r : Result State LineWhy) → IsSameLine here there job bytes → line_at there (scope_of job) bytes ≡ Some (item, rest)
    → next there job item ≡ r
    → read (record { place = here; job = job }) line bytes ≡ read (record { place = there; job = job }) line bytes
same_ok here there job line bytes rest item (Ok state) is h n =
    read_on here job line bytes rest (is.here_as item) state (is.line_is ∙ rw h refl) (is.next_is item ∙ n)
    ∙ sym (read_on there job line bytes rest item state h n)
same_ok here there job line bytes rest item (Err why) is h n =
    read_full here job line bytes rest (is.here_as item) why (is.line_is ∙ rw h refl) (is.next_is item ∙ n)
    ∙ sym (read_full there job line bytes rest item why h n)

same_by : (here there : Place) (job : Job) (line : ℕ) (bytes : List ℕ) (o : Option (Item there × List ℕ))
    → IsSameLine here there job bytes → line_at there (scope_of job) bytes ≡ o
    → read (record { place = here; job = job }) line bytes ≡ read (record { place = there; job = job }) line bytes
same_by here there job line bytes None is h =
    is.bad_here job line bytes (is.line_is ∙ rw h refl)
    ∙ ap (λ (form : Bool). Err (record { line = line; why = why_of form bytes })) is.form_is
    ∙ sym (is.bad_there job line bytes h)
same_by here there job line bytes (Some x) is h =
    same_ok here there job line bytes x.1 x.0 (next there job x.0) is h refl

pub pairs_over : (job : Job) (line : ℕ) (bytes : List ℕ) → bytes_eq (first_word bytes) (codes "pair") ≡ false → read
    (record { place = AtPairs; job = job }) line bytes ≡ read (record { place = AtAtomics; job = job }) line bytes
pairs_over job line bytes b = same_by AtPairs AtAtomics job line bytes (line_at AtAtomics (scope_of job) bytes)
    (record {
      here_as = λ item. Other item;
      next_is = λ item. refl;
      line_is = other_line (codes "pair") (pair_at job.settings) (atomics_or_later_at (scope_of job)) bytes b;
      form_is = rw b refl;
      bad_here = line_bad AtPairs tt;
      bad_there = line_bad AtAtomics tt;
    }) refl

pub atomics_over : (job : Job) (line : ℕ) (bytes : List ℕ) → bytes_eq (first_word bytes) (codes "atomics") ≡ false → read
    (record { place = AtAtomics; job = job }) line bytes ≡ read (record { place = AtCollect; job = job }) line bytes
atomics_over job line bytes b = same_by AtAtomics AtCollect job line bytes (line_at AtCollect (scope_of job) bytes)
    (record {
      here_as = λ item. Other item;
      next_is = λ item. refl;
      line_is = other_line (codes "atomics") (atomics_at (scope_of job)) (collect_or_later_at (scope_of job)) bytes b;
      form_is = rw b refl;
      bad_here = line_bad AtAtomics tt;
      bad_there = line_bad AtCollect tt;
    }) refl

pub collect_over : (job : Job) (line : ℕ) (bytes : List ℕ) → bytes_eq (first_word bytes) (codes "collect") ≡ false → read
    (record { place = AtCollect; job = job }) line bytes ≡ read (record { place = AtHandlers; job = job }) line bytes
collect_over job line bytes b = same_by AtCollect AtHandlers job line bytes (line_at AtHandlers (scope_of job) bytes)
    (record {
      here_as = λ item. Other item;
      next_is = λ item. refl;
      line_is = other_line (codes "collect") (collect_at (scope_of job)) (header_or_section_at job.settings) bytes b;
      form_is = rw b refl;
      bad_here = line_bad AtCollect tt;
      bad_there = line_bad AtHandlers tt;
    }) refl

pub handlers_over : (job : Job) (line : ℕ) (bytes : List ℕ) → bytes_eq (first_word bytes) (codes "handler") ≡ false → read
    (record { place = AtHandlers; job = job }) line bytes ≡ read (record { place = AtScripts; job = job }) line bytes
handlers_over job line bytes b = same_by AtHandlers AtScripts job line bytes (line_at AtScripts (scope_of job) bytes)
    (record {
      here_as = λ item. Other item;
      next_is = λ item. refl;
      line_is = other_line (codes "handler") header_at (section_at job.settings.nodes job.settings.threads) bytes b;
      form_is = rw b refl;
      bad_here = line_bad AtHandlers tt;
      bad_there = line_bad AtScripts tt;
    }) refl
