-- What a refusal means is what the reader tells: so no text has two of them.
use Rattle.std.proofs.Common.{◌≡◌, ◌≢◌, inl, inr, ℕ, zero, suc, ◌+◌, ◌-◌, ◌≤◌, ◌||◌, List, [], ◌∷◌, ◌++◌, length, Option, Some}
use Rattle.std.proofs.Common.{None, Result, Ok, Err, Bool, true, false, eqb, cond, refl, sym, ap, subst, ◌∙◌, arith}
use Rattle.std.proofs.Common.{length-append}
use Rattle.std.specs.Prelude.{◌⊎◌}
use Rattle.std.proofs.lemmas.Bool.{le-leb, lt-ltb, ne_eqb}
use Rattle.base_text.specs.Reasons.{is_text, reason}
use Rattle.text_job.specs.Scopes.{scope_of}
use Rattle.text_job.specs.Places.{Setting, Version, Nodes, Credits, Threads, Segment, Last, Resend, Patience}
use Rattle.text_job.specs.Places as places
use Rattle.text_job.specs.Places.{Place, AtSetting, AtSieve, AtPairs, AtAtomics, AtHandlers, AtBody}
use Rattle.text_job.specs.Places.{AtScripts, AtSteps}
use Rattle.text_job.specs.Places.{AtCollect, AtSchedule, AtDone, Over, Named, Other, Item, item_form}
use Rattle.text_job.specs.Places.{HandlerItem, CollectItem, AtomicsItem}
use Rattle.text_job.specs.JobReading.{BadLine, start, line_at, next, after_section, after_handler_line, after_collect, after_atomics}
use Rattle.text_job.specs.JobReading.{leading_job, of_prefix, alone, within_size, from_lines, read_lines, read, job_of}
use Rattle.text_job.specs.JobReading.{prefix_of}
use Rattle.text_job.specs.JobReading.{most_handlers}
use Rattle.text_job.specs.JobReading.{has_pair, has_index, is_reserved}
use Rattle.text_job.specs.JobText.{spell, job_lines, job_text}
use Rattle.text_job.specs.Reading.{GivesAt}
use Rattle.text_job.specs.Refusals.{first_lines, after_lines, so_far, Says, SaysNothing, IsTaken}
use Rattle.text_job.specs.Refusals.{IsTakenIndex}
use Rattle.text_job.specs.Refusals.{IsTakenBehind, IsTakenLater, IsFullBehind}
use Rattle.text_job.specs.Refusals.{IsTakenThread, IsFull, IsFullOfHandlers, IsFullLater, HasNoText}
use Rattle.text_job.specs.Refusals.{HasNoForm}
use Rattle.text_job.specs.Refusals.{HasBadValue, IsAtFault, Before, IsWrong, Means}
use Rattle.text_job.specs.Refusals.{IsTold, IsTooLong, PrefixMeans}
use Rattle.text_job.specs.declared.fault.JobFault.{JobFault}
use Rattle.text_job.specs.declared.fault.JobFault.TheVariants as faults
use Rattle.base_text.specs.declared.why.LineWhy.{LineWhy}
use Rattle.base_text.specs.declared.why.LineWhy.TheVariants.{Size, Early, Text, Form, Value as BadValue, Entry, Count}
use Rattle.base_text.specs.declared.why.LineWhy.TheVariants.{After}
use Rattle.text_job.specs.declared.job.Job.{Job}
use Rattle.text_job.specs.declared.sections.HandlerHeader.{HandlerHeader}
use Rattle.text_job.specs.declared.sections.Section.{Section}
use Rattle.text_job.specs.declared.sections.Section.TheVariants as section
use Rattle.base_text.proofs.Prefixes.{cond_yes, cond_no}
use Rattle.text_job.proofs.JobRuns.{job_reads, prefix_reads}
use Rattle.text_job.proofs.LineRuns.{IsOpen, goes_on, open_or_over, line_takes, line_again, read_full}
use Rattle.text_job.proofs.LineRuns.{line_bad, over_read}
use Rattle.text_job.proofs.Completeness.{reach_read, job_read}
use Rattle.text_job.proofs.Reaching.{known, reach_place}
use Rattle.text_job.specs.declared.reading.TheConstants.{MAX_JOB_BYTES}

-- ---- the first lines, and those after them

split_by : (b : ℕ) (bytes : List ℕ) (count : ℕ) (ten : Bool) → eqb b 10 ≡ ten
    → first_lines count bytes ++ after_lines count bytes ≡ bytes
    → first_lines (suc count) bytes ++ after_lines (suc count) bytes ≡ bytes
    → first_lines (suc count) (b ∷ bytes) ++ after_lines (suc count) (b ∷ bytes) ≡ b ∷ bytes
split_by b bytes count true e here later = rw e (ap (λ (r : List ℕ). b ∷ r) here)
split_by b bytes count false e here later = rw e (ap (λ (r : List ℕ). b ∷ r) later)

lines_split : (bytes : List ℕ) (count : ℕ) → first_lines count bytes ++ after_lines count bytes ≡ bytes
lines_split [] count = refl
lines_split (b ∷ bytes) zero = refl
lines_split (b ∷ bytes) (suc count) =
    split_by b bytes count (eqb b 10) refl (lines_split bytes count) (lines_split bytes (suc count))

-- ---- a line at fault isn't read

open_at : (place : Place) → place ≢ Over → IsOpen place
open_at place to_come = by_open place to_come (open_or_over place)
  where
    by_open : (place : Place) → place ≢ Over → IsOpen place ⊎ (place ≡ Over) → IsOpen place
    by_open place to_come (inl open_) = open_
    by_open place to_come (inr over) = absurd (to_come over)

-- what says nothing isn't read
nothing_by : (place : Place) (job : Job) (rest : List ℕ) (o : Option (Item place × List ℕ))
    → line_at place (scope_of job) rest ≡ o → SaysNothing place job rest → o ≡ None
nothing_by place job rest None e says = refl
nothing_by place job rest (Some x) e says =
    let said = (line_takes place (scope_of job) rest).so x e in
    absurd (says x.0 (said.1, (x.1, said.0)))

nothing_read : (place : Place) (job : Job) (rest : List ℕ) → SaysNothing place job rest
    → line_at place (scope_of job) rest ≡ None
nothing_read place job rest says = nothing_by place job rest (line_at place (scope_of job) rest) refl says

-- the reader refuses these bytes there so
abbrev pub IsRefused : Place → Job → (line : ℕ) → List ℕ → LineWhy → Type 0
IsRefused place job line rest why =
    read (record { place = place; job = job }) line rest ≡ Err (record { line = line; why = why })

-- by the reason of a line that says nothing
reasoned : (place : Place) (job : Job) (line b : ℕ) (rest : List ℕ) (form text : Bool) (why : LineWhy) → place ≢ Over
    → is_text (b ∷ rest) ≡ text → item_form place (scope_of job) (b ∷ rest) ≡ form
    → SaysNothing place job (b ∷ rest) → cond text (cond form BadValue Form) Text ≡ why
    → IsRefused place job line (b ∷ rest) why
reasoned place job line b rest form text why to_come e f says is =
    let told : reason (item_form place (scope_of job)) (b ∷ rest) ≡ why =
    cond_no (eqb (length (b ∷ rest)) 0) Early _ (ne_eqb (length (b ∷ rest)) 0 (λ none. omega arith)) ∙ rw (e, f) is in
    line_bad place (open_at place to_come) job line (b ∷ rest) (nothing_read place job (b ∷ rest) says)
    ∙ ap (λ (w : LineWhy). Err (record { line = line; why = w })) told

no_text_bytes : is_text [] ≡ true → ⊥
unfolding is_text
no_text_bytes h = cc

early_refused : (place : Place) (job : Job) (line : ℕ) → place ≢ Over → IsRefused place job line [] Early
unfolding read read_lines from_lines
early_refused place job line to_come = goes_on place _ _ (open_at place to_come)

text_refused : (place : Place) (job : Job) (line : ℕ) (rest : List ℕ) → HasNoText place job rest
    → IsRefused place job line rest Text
text_refused place job line [] h = absurd (h.some refl)
text_refused place job line (b ∷ rest) h =
    reasoned place job line b rest (item_form place (scope_of job) (b ∷ rest)) false Text h.to_come h.no_text refl
    h.says_nothing refl

form_refused : (place : Place) (job : Job) (line : ℕ) (rest : List ℕ) → HasNoForm place job rest
    → IsRefused place job line rest Form
form_refused place job line [] h = absurd (no_text_bytes h.text)
form_refused place job line (b ∷ rest) h =
    reasoned place job line b rest false true Form h.to_come h.text h.no_form h.says_nothing refl

value_refused : (place : Place) (job : Job) (line : ℕ) (rest : List ℕ) → HasBadValue place job rest
    → IsRefused place job line rest BadValue
value_refused place job line [] h = absurd (no_text_bytes h.text)
value_refused place job line (b ∷ rest) h =
    reasoned place job line b rest true true BadValue h.to_come h.text h.form h.says_nothing refl

-- what stood in a line before may not stand again
opened_taken : (job : Job) (s : Section) → IsTakenThread job s → after_section job s ≡ Err Entry
opened_taken job (section.Script node thread) h = rw h refl
opened_taken job section.Schedule h = absurd h
opened_taken job section.Done h = absurd h

headed_taken : (job : Job) (item : HandlerItem) → IsTakenIndex job item → after_handler_line job item ≡ Err Entry
headed_taken job (Named header) h = rw h refl
headed_taken job (Other s) h = opened_taken job s h

collected_taken : (job : Job) (item : CollectItem) → IsTakenBehind job item → after_collect job item ≡ Err Entry
collected_taken job (Named area) h = absurd h
collected_taken job (Other item) h = headed_taken job item h

served_taken : (job : Job) (item : AtomicsItem) → IsTakenLater job item → after_atomics job item ≡ Err Entry
served_taken job (Named line) h = absurd h
served_taken job (Other item) h = collected_taken job item h

next_taken : (place : Place) (job : Job) (item : Item place) → IsTaken place job item → next place job item ≡ Err Entry
next_taken (AtSetting setting) job item h = absurd h
next_taken AtSieve job item h = absurd h
next_taken AtPairs job (Named pair) h = rw h refl
next_taken AtPairs job (Other item) h = served_taken job item h
next_taken AtAtomics job item h = served_taken job item h
next_taken AtCollect job item h = collected_taken job item h
next_taken AtHandlers job item h = headed_taken job item h
next_taken (AtBody handler) job item h = absurd h
next_taken AtScripts job item h = opened_taken job item h
next_taken (AtSteps script) job item h = absurd h
next_taken AtSchedule job item h = absurd h
next_taken AtDone job item h = absurd h
next_taken Over job item h = absurd h

-- and where there is no room nothing new may
is_false : (b : Bool) → (b ≡ true → ⊥) → b ≡ false
is_false true other = absurd (other refl)
is_false false other = refl

headed_full : (job : Job) (item : HandlerItem) → (IsTakenIndex job item → ⊥)
    → IsFullOfHandlers job item → after_handler_line job item ≡ Err Count
headed_full job (Named header) is_new h =
    rw (
      is_false (has_index job.handlers header.index || is_reserved (scope_of job) header.index) is_new,
      le-leb (most_handlers (scope_of job)) (length job.handlers) h,
    ) refl
headed_full job (Other s) is_new h = absurd h

collected_full : (job : Job) (item : CollectItem) → (IsTakenBehind job item → ⊥) → IsFullBehind job item
    → after_collect job item ≡ Err Count
collected_full job (Named area) is_new h = absurd h
collected_full job (Other item) is_new h = headed_full job item is_new h

served_full : (job : Job) (item : AtomicsItem) → (IsTakenLater job item → ⊥) → IsFullLater job item
    → after_atomics job item ≡ Err Count
served_full job (Named line) is_new h = absurd h
served_full job (Other item) is_new h = collected_full job item is_new h

next_full : (place : Place) (job : Job) (item : Item place) → (IsTaken place job item → ⊥) → IsFull place job item
    → next place job item ≡ Err Count
next_full (AtSetting setting) job item is_new h = absurd h
next_full AtSieve job item is_new h = absurd h
next_full AtPairs job (Named pair) is_new h =
    rw (is_false (has_pair job.settings.pairs pair) is_new, le-leb 64 (length job.settings.pairs) h) refl
next_full AtPairs job (Other item) is_new h = served_full job item is_new h
next_full AtAtomics job item is_new h = served_full job item is_new h
next_full AtCollect job item is_new h = collected_full job item is_new h
next_full AtHandlers job item is_new h = headed_full job item is_new h
next_full (AtBody handler) job None is_new h = absurd h
next_full (AtBody handler) job (Some action) is_new h = rw (le-leb 64 (length handler.body) h) refl
next_full AtScripts job item is_new h = absurd h
next_full (AtSteps script) job None is_new h = absurd h
next_full (AtSteps script) job (Some step) is_new h = rw h refl
next_full AtSchedule job None is_new h = absurd h
next_full AtSchedule job (Some timed) is_new h = rw h refl
next_full AtDone job item is_new h = absurd h
next_full Over job item is_new h = absurd h

said_refused : (place : Place) (job : Job) (line : ℕ) (rest : List ℕ) (why : LineWhy) (item : Item place)
    → Says place (scope_of job) rest item → next place job item ≡ Err why → IsRefused place job line rest why
said_refused place job line rest why item says goes =
    let read_as : line_at place (scope_of job) rest ≡ Some (item, says.1.0) =
    ap (line_at place (scope_of job)) says.1.1 ∙ line_again place (scope_of job) item says.1.0 says.0 in
    read_full place job line rest says.1.0 item why read_as goes

-- a fault within the lines of a job
abbrev pub IsWithin : LineWhy → Type 0
IsWithin Size = ⊥
IsWithin After = ⊥
IsWithin why = Unit {0}

fault_refused : (why : LineWhy) (place : Place) (job : Job) (line : ℕ) (rest : List ℕ) → IsWithin why
    → IsAtFault why place job rest → IsRefused place job line rest why
fault_refused Size place job line rest within h = absurd within
fault_refused Early place job line rest within h =
    subst (λ (r : List ℕ). IsRefused place job line r Early) (sym h.1) (early_refused place job line h.0)
fault_refused Text place job line rest within h = text_refused place job line rest h
fault_refused Form place job line rest within h = form_refused place job line rest h
fault_refused BadValue place job line rest within h = value_refused place job line rest h
fault_refused Entry place job line rest within h =
    said_refused place job line rest Entry h.item h.says (next_taken place job h.item h.taken)
fault_refused Count place job line rest within h =
    said_refused place job line rest Count h.item h.says (next_full place job h.item h.is_new h.full)
fault_refused After place job line rest within h = absurd within

-- ---- the head's lines say nothing of what isn't read yet

-- what may be said there is the same, by what the reader knows
abbrev SaysBack : Place → Type 0
SaysBack place = (job : Job) (rest : List ℕ) (item : Item place) → Says place (scope_of (known place job)) rest item
    → Says place (scope_of job) rest item

setting_back : (setting : Setting) → SaysBack (AtSetting setting)
setting_back Version job rest item says = says
setting_back places.Job job rest item says = says
setting_back Nodes job rest item says = says
setting_back Credits job rest item says = says
setting_back Threads job rest item says = says
setting_back Segment job rest item says = says
setting_back Last job rest item says = says
setting_back Resend job rest item says = says
setting_back Patience job rest item says = says

sieve_back : SaysBack AtSieve
sieve_back job rest item says = says

head_known : (why : LineWhy) (place : Place) (job : Job) (rest : List ℕ) → SaysBack place
    → (item_form place (scope_of (known place job)) rest ≡ item_form place (scope_of job) rest)
    → ((item : Item place) → IsTaken place job item → ⊥) → ((item : Item place) → IsFull place job item → ⊥)
    → IsAtFault why place job rest → IsAtFault why place (known place job) rest
head_known Size place job rest back form taken full h = h
head_known Early place job rest back form taken full h = h
head_known Text place job rest back form taken full h = record {
  to_come = h.to_come;
  some = h.some;
  no_text = h.no_text;
  says_nothing = λ item says. h.says_nothing item (back job rest item says);
}
head_known Form place job rest back form taken full h = record {
  to_come = h.to_come;
  text = h.text;
  no_form = form ∙ h.no_form;
  says_nothing = λ item says. h.says_nothing item (back job rest item says);
}
head_known BadValue place job rest back form taken full h = record {
  to_come = h.to_come;
  text = h.text;
  form = form ∙ h.form;
  says_nothing = λ item says. h.says_nothing item (back job rest item says);
}
head_known Entry place job rest back form taken full h = absurd (taken h.item h.taken)
head_known Count place job rest back form taken full h = absurd (full h.item h.full)
head_known After place job rest back form taken full h = h

fault_known : (why : LineWhy) (place : Place) (job : Job) (rest : List ℕ) → IsAtFault why place job rest
    → IsAtFault why place (known place job) rest
fault_known why (AtSetting setting) job rest h =
    head_known why (AtSetting setting) job rest (setting_back setting) refl (λ item t. t) (λ item f. f) h
fault_known why AtSieve job rest h =
    head_known why AtSieve job rest sieve_back refl (λ item t. t) (λ item f. f) h
fault_known why AtPairs job rest h = h
fault_known why AtAtomics job rest h = h
fault_known why AtCollect job rest h = h
fault_known why AtHandlers job rest h = h
fault_known why (AtBody handler) job rest h = h
fault_known why AtScripts job rest h = h
fault_known why (AtSteps script) job rest h = h
fault_known why AtSchedule job rest h = h
fault_known why AtDone job rest h = h
fault_known why Over job rest h = h

-- ---- a text whose line is wrong

-- what is read behind the lines before it
read_before : (bytes : List ℕ) (line : ℕ) (b : Before bytes line) → read start 1 bytes
    ≡ read (record { place = b.place; job = known b.place b.job }) line (after_lines (line - 1) bytes)
read_before bytes line b =
    let rest = after_lines (line - 1) bytes in
    let lines = so_far b.place b.job in
    let count = b.count in
    let text : bytes ≡ spell lines ++ rest =
    sym (lines_split bytes (line - 1)) ∙ ap (λ (prefix : List ℕ). prefix ++ rest) b.lines in
    ap (read start 1) text
    ∙ reach_read lines start (record { place = b.place; job = known b.place b.job }) 1 rest
    (reach_place b.place b.job b.is b.unread b.reached)
    ∙ ap (λ (n : ℕ). read (record { place = b.place; job = known b.place b.job }) n rest) (omega (arith, count))

wrong_read : (bytes : List ℕ) (line : ℕ) (why : LineWhy) → IsWithin why → IsWrong bytes line why
    → read start 1 bytes ≡ Err (record { line = line; why = why })
wrong_read bytes line why within w =
    let b = w.before in
    read_before bytes line b
    ∙ fault_refused why b.place (known b.place b.job) line (after_lines (line - 1) bytes) within
    (fault_known why b.place b.job (after_lines (line - 1) bytes) w.fault)

-- bytes behind a job's text
after_over : (place : Place) (job : Job) (line : ℕ) (rest : List ℕ) → place ≡ Over
    → read (record { place = place; job = job }) line rest ≡ Ok (leading_job job line rest)
after_over place job line rest over =
    ap (λ (p : Place). read (record { place = p; job = job }) line rest) over ∙ over_read job line rest

alone_not : (job : Job) (line : ℕ) (rest : List ℕ) → rest ≢ []
    → alone (leading_job job line rest) ≡ Err (record { line = line; why = After })
alone_not job line [] some = absurd (some refl)
alone_not job line (b ∷ rest) some =
    cond_no (eqb (length (b ∷ rest)) 0) _ _ (ne_eqb (length (b ∷ rest)) 0 (λ none. omega arith))

after_read : (bytes : List ℕ) (line : ℕ) → IsWrong bytes line After
    → of_prefix alone (read start 1 bytes) ≡ Err (record { line = line; why = After })
after_read bytes line w =
    let b = w.before in
    let rest = after_lines (line - 1) bytes in
    ap (of_prefix alone) (read_before bytes line b
    ∙ after_over b.place (known b.place b.job) line rest w.fault.0)
    ∙ alone_not (known b.place b.job) line rest w.fault.1

-- ---- what is meant is told

within_read : (bytes : List ℕ) (line : ℕ) (why : LineWhy) → IsWithin why → IsWrong bytes line why × (length bytes ≤ MAX_JOB_BYTES)
    → job_of bytes ≡ Err (record { line = line; why = why })
within_read bytes line why within w = job_reads bytes w.1 ∙ ap (of_prefix alone) (wrong_read bytes line why within w.0)

pub means_told : (bytes : List ℕ) (line : ℕ) (why : LineWhy) → Means bytes line why
    → job_of bytes ≡ Err (record { line = line; why = why })
unfolding job_of
means_told bytes line Size m =
    cond_yes _ _ _ (lt-ltb MAX_JOB_BYTES (length bytes) m.1)
    ∙ ap (λ (n : ℕ). Err (record { line = n; why = Size })) (sym m.0)
means_told bytes line Early m = within_read bytes line Early tt m
means_told bytes line Text m = within_read bytes line Text tt m
means_told bytes line Form m = within_read bytes line Form tt m
means_told bytes line BadValue m = within_read bytes line BadValue tt m
means_told bytes line Entry m = within_read bytes line Entry tt m
means_told bytes line Count m = within_read bytes line Count tt m
means_told bytes line After m = job_reads bytes m.1 ∙ after_read bytes line m.0

within_prefix : (bytes : List ℕ) (line : ℕ) (why : LineWhy) → IsWithin why → IsWrong bytes line why
    → prefix_of bytes ≡ Err (record { line = line; why = why })
within_prefix bytes line why within w =
    prefix_reads bytes ∙ ap (of_prefix (within_size (length bytes))) (wrong_read bytes line why within w)

-- a job's text that is too long
long_read : (bytes : List ℕ) → IsTooLong bytes → prefix_of bytes ≡ Err (record { line = 0; why = Size })
long_read bytes t =
    let prefix = leading_job t.job (1 + length (job_lines t.job)) t.rest in
    let size : length bytes ≡ length (job_text t.job) + length t.rest =
    ap length t.text ∙ length-append (job_text t.job) t.rest in
    let long = t.long in
    prefix_reads bytes
    ∙ ap (λ (b : List ℕ). of_prefix (within_size (length bytes)) (read start 1 b)) t.text
    ∙ ap (of_prefix (within_size (length bytes))) (job_read t.job t.is t.rest)
    ∙ cond_yes _ _ _ (lt-ltb MAX_JOB_BYTES (length bytes - length prefix.rest) (omega (arith, size, long)))

pub prefix_means_told : (bytes : List ℕ) (line : ℕ) (why : LineWhy) → PrefixMeans bytes line why
    → prefix_of bytes ≡ Err (record { line = line; why = why })
prefix_means_told bytes line Size m =
    long_read bytes m.1 ∙ ap (λ (n : ℕ). Err (record { line = n; why = Size })) (sym m.0)
prefix_means_told bytes line Early m = within_prefix bytes line Early tt m
prefix_means_told bytes line Text m = within_prefix bytes line Text tt m
prefix_means_told bytes line Form m = within_prefix bytes line Form tt m
prefix_means_told bytes line BadValue m = within_prefix bytes line BadValue tt m
prefix_means_told bytes line Entry m = within_prefix bytes line Entry tt m
prefix_means_told bytes line Count m = within_prefix bytes line Count tt m
prefix_means_told bytes line After m = absurd m

-- ---- one reason

no_fault : {A : Type 0} (job : A) (r : Result A BadLine) (bad : BadLine) → r ≡ Ok job → r ≡ Err bad → ⊥
no_fault job r bad h e = cc

bad_same : {A : Type 0} (r : Result A BadLine) (bad found : BadLine) → r ≡ Err bad → r ≡ Err found → bad ≡ found
bad_same r bad found h e = cc

told_of : (bad found : BadLine) → bad ≡ found → faults.Bad bad.line bad.why ≡ faults.Bad found.line found.why
told_of bad found same = ap (λ (b : BadLine). faults.Bad b.line b.why) same

pub gives_told : (r : Result Job JobFault) (bytes : List ℕ) → GivesAt (λ (j : Job). j) r (job_of bytes)
    → (line : ℕ) (why : LineWhy) → Means bytes line why → IsTold r line why
gives_told (Ok job) bytes h line why m =
    no_fault job (job_of bytes) (record { line = line; why = why }) h (means_told bytes line why m)
gives_told (Err faults.NoMemory) bytes h line why m = inl tt
gives_told (Err (faults.Bad at told)) bytes h line why m =
    let bad : BadLine = record { line = at; why = told } in
    let found : BadLine = record { line = line; why = why } in
    inr (told_of bad found (bad_same (job_of bytes) bad found h (means_told bytes line why m)))

pub gives_prefix_told : (r : Result (Job × ℕ) JobFault) (bytes : List ℕ)
    → GivesAt (λ (x : Job × ℕ). x) r (prefix_of bytes)
    → (line : ℕ) (why : LineWhy) → PrefixMeans bytes line why → IsTold r line why
gives_prefix_told (Ok x) bytes h line why m =
    no_fault x (prefix_of bytes) (record { line = line; why = why }) h (prefix_means_told bytes line why m)
gives_prefix_told (Err faults.NoMemory) bytes h line why m = inl tt
gives_prefix_told (Err (faults.Bad at told)) bytes h line why m =
    let bad : BadLine = record { line = at; why = told } in
    let found : BadLine = record { line = line; why = why } in
    inr (told_of bad found (bad_same (prefix_of bytes) bad found h (prefix_means_told bytes line why m)))

-- two refusals of a text are one
pub one_meaning : (bytes : List ℕ) (bad found : BadLine) → Means bytes bad.line bad.why → Means bytes found.line found.why
    → bad ≡ found
one_meaning bytes bad found m n =
    bad_same (job_of bytes) bad found (means_told bytes bad.line bad.why m) (means_told bytes found.line found.why n)

pub one_prefix_meaning : (bytes : List ℕ) (bad found : BadLine) → PrefixMeans bytes bad.line bad.why
    → PrefixMeans bytes found.line found.why → bad ≡ found
one_prefix_meaning bytes bad found m n =
    bad_same (prefix_of bytes) bad found (prefix_means_told bytes bad.line bad.why m)
    (prefix_means_told bytes found.line found.why n)

-- A test of the definitions: while a reason stood beside any place and any job, each wrong line was both.
form_or_after : (bytes : List ℕ) (line : ℕ) → Means bytes line Form → Means bytes line After → ⊥
form_or_after bytes line form after =
    apart (ap (λ (b : BadLine). b.why)
    (one_meaning bytes (record { line = line; why = Form }) (record { line = line; why = After }) form after))
  where
    apart : Form ≡ After → ⊥
    apart h = cc
