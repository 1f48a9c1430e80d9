-- What a refusal means.
use Rattle.std.proofs.Common.{◌≡◌, ◌≢◌, inl, inr, ℕ, zero, suc, ◌+◌, ◌-◌, ◌≤◌, ◌⊎◌, List, [], ◌∷◌, ◌++◌, length, Option}
use Rattle.std.proofs.Common.{Some, None, Result, Ok, Err, Bool, eqb, cond, not, ◌&&◌, ◌||◌, ltb, leb, false, true, refl}
use Rattle.std.proofs.Common.{sym, ap, subst, ◌∙◌, arith, append_assoc, append-nil, length-append}
use Rattle.std.proofs.lemmas.Bool.{eqb-true, eqb-false, leb-true, ltb-true, ltb-false, le-ltb, ne_eqb, and_parts}
use Rattle.std.specs.Prelude.{IfOk, IfErr}
use Rattle.wire_message.specs.declared.pairs.PairCredits.{PairCredits}
use Rattle.base_text.specs.Reasons.{is_text, is_plain, goes_on_as_text, reason}
use Rattle.text_job.specs.Places.{Place, AtSetting, AtSieve, AtPairs, AtHandlers, AtBody, AtScripts, AtSteps}
use Rattle.text_job.specs.Places.{AtAtomics, AtCollect, AtSchedule, AtDone, Over}
use Rattle.text_job.specs.Scopes.{scope_of}
use Rattle.text_job.specs.Places.{Named, Other, Item, item_text, item_form, HandlerItem, CollectItem}
use Rattle.text_job.specs.Places.{AtomicsItem, PairItem}
use Rattle.text_job.specs.JobReading.{State, BadLine, LeadingJob, start, line_at, why_at, next, onward}
use Rattle.text_job.specs.JobReading.{after_item}
use Rattle.text_job.specs.JobReading.{step, unless, after_section, after_handler_line, after_pair, has_index, has_pair, has_thread}
use Rattle.text_job.specs.JobReading.{handler_why, section_why, pair_why, action_why, step_why, line_why}
use Rattle.text_job.specs.JobReading.{is_full}
use Rattle.text_job.specs.JobReading.{amounts_of, is_full_script, lines_of, leading_job, of_prefix, alone}
use Rattle.text_job.specs.JobReading.{within_size, read}
use Rattle.text_job.specs.JobReading.{job_of}
use Rattle.text_job.specs.PlanPieces.{scripts_pieces}
use Rattle.text_job.specs.StepPieces.{steps_pieces}
use Rattle.text_job.specs.JobReading.{prefix_of, after_collect, after_atomics, is_reserved, most_handlers}
use Rattle.text_job.specs.JobText.{spell, job_lines, job_text, IsJob, JobText, BeginsWith}
use Rattle.text_job.specs.Reading.{GivesAt}
use Rattle.text_job.specs.Refusals.{first_lines, after_lines, IsNoPrefix, Before, so_far, completed_job, IsWrong}
use Rattle.text_job.specs.Refusals.{Means}
use Rattle.text_job.specs.Refusals.{Says, IsTaken, IsFull, HasNoText, HasNoForm, HasBadValue, IsRepeated}
use Rattle.text_job.specs.Refusals.{IsTooMany}
use Rattle.text_job.specs.Refusals.{IsAtFault, NoneGoesOn, IsMeant, IsNoMemory, IsTooLong, PrefixMeans}
use Rattle.text_job.specs.Refusals.{IsPrefixMeant}
use Rattle.text_job.specs.declared.fault.JobFault.{JobFault}
use Rattle.text_job.specs.declared.fault.JobFault.TheVariants as faults
use Rattle.base_text.specs.declared.why.LineWhy.{LineWhy}
use Rattle.base_text.specs.declared.why.LineWhy.TheVariants.{Size, Early, Text, Form, Value as BadValue, Entry, Count}
use Rattle.base_text.specs.declared.why.LineWhy.TheVariants.{After}
use Rattle.text_job.specs.declared.job.Job.{Job}
use Rattle.text_job.specs.declared.sections.HandlerHeader.{HandlerHeader}
use Rattle.text_job.specs.declared.sections.Section.{Section}
use Rattle.text_job.specs.declared.sections.Section.TheVariants as section
use Rattle.base_text.proofs.Prefixes.{cond_yes, cond_no}
use Rattle.text_calls.proofs.FormLaws.{IsFlat}
use Rattle.text_job.proofs.JobRuns.{is_sized}
use Rattle.text_job.proofs.PlaceLaws.{place_exact}
use Rattle.text_job.proofs.LineRuns.{IsOpen, line_takes, line_again, read_on, over_read}
use Rattle.text_job.proofs.JobLaws.{sound_job}
use Rattle.text_job.proofs.States.{IsState, unread, sound_completed}
use Rattle.text_job.proofs.Walks.{step_of, step_keeps, Walks, EndsAs, Ends, Fails, IsOver, read_outcome}
use Rattle.text_job.proofs.Refusing.{first_flat, first_none, first_spelled, after_spelled, IsWalk, walk_of}
use Rattle.text_job.proofs.Refusing.{walk_prefix}
use Rattle.text_job.proofs.Refusing.{prefix_same, read_text, rest_size, walk_lines}
use Rattle.text_job.proofs.Standing.{not_over, walk_reached}
use Rattle.text_job.proofs.Completeness.{job_read}
use Rattle.text_job.specs.declared.reading.TheConstants.{MAX_JOB_BYTES}

-- ---- a walk is read

walk_read : (count : ℕ) (state : State) (line : ℕ) (bytes : List ℕ) (end : State) (rest : List ℕ)
    → Walks count state bytes end rest → read state line bytes ≡ read end (line + count) rest
walk_read zero state line bytes end rest w = ap (λ (s : State). read s line bytes) w.0 ∙ ap (read end line) w.1 ∙ ap
    (λ (n : ℕ). read end n rest) (omega arith)
walk_read (suc count) state line bytes end rest w =
    let one = step_of state bytes (w.to, w.rest) w.is in
    read_on state.place state.job line bytes w.rest one.item w.to one.found one.goes ∙ walk_read count w.to
    (line + 1) w.rest end rest w.behind ∙ ap (λ (n : ℕ). read end n rest) (omega arith)

-- ---- a line that isn't read, by the reason

-- a line that is one, whatever its reason
pub record IsWhole (rest : List ℕ) : Type 0 where
  pub line : List ℕ
  pub more : List ℕ
  pub flat : IsFlat line
  pub text : rest ≡ line ++ 10 ∷ more

pub data Kind (place : Place) (job : Job) (rest : List ℕ) (why : LineWhy) : Type 0 where
  IsText : HasNoText place job rest → why ≡ Text → Kind place job rest why
  IsLine : IsWhole rest → (why ≡ Form) ⊎ ((why ≡ BadValue) ⊎ ((why ≡ Entry) ⊎ (why ≡ Count)))
      → IsAtFault why place job rest → Kind place job rest why

-- words and an ending byte
text_by : (b : ℕ) (bytes : List ℕ) (ten space : Bool) (begins : Bool) → eqb b 10 ≡ ten → eqb b 32 ≡ space → cond ten
    (not begins) (cond space (not begins && goes_on_as_text true bytes) (is_plain b && goes_on_as_text false bytes))
    ≡ true
    → ((begins : Bool) → goes_on_as_text begins bytes ≡ true → IsWhole bytes) → IsWhole (b ∷ bytes)
text_by b bytes true space begins e f h more = record {
  line = [];
  more = bytes;
  flat = tt;
  text = ap
      (λ (c : ℕ). c ∷ bytes) (eqb-true b 10 e);
}
text_by b bytes false true begins e f h more =
    let w = more true (and_parts (not begins) (goes_on_as_text true bytes) h).1 in
    record { line = b ∷ w.line; more = w.more; flat = (e, w.flat); text = ap (λ (r : List ℕ). b ∷ r) w.text }
text_by b bytes false false begins e f h more =
    let w = more false (and_parts (is_plain b) (goes_on_as_text false bytes) h).1 in
    record { line = b ∷ w.line; more = w.more; flat = (e, w.flat); text = ap (λ (r : List ℕ). b ∷ r) w.text }

whole_text : (begins : Bool) (bytes : List ℕ) → goes_on_as_text begins bytes ≡ true → IsWhole bytes
whole_text begins [] h = absurd (cc)
whole_text begins (b ∷ bytes) h = text_by b bytes (eqb b 10) (eqb b 32) begins refl refl h (λ t k. whole_text t bytes k)

text_whole : (bytes : List ℕ) → is_text bytes ≡ true → IsWhole bytes
unfolding is_text
text_whole bytes h = whole_text true bytes h

-- a line that isn't read says nothing
none_some : {A : Type 0} {o : Option A} {x : A} → o ≡ None → o ≡ Some x → ⊥
none_some h k = cc

says_none : (place : Place) (job : Job) (rest : List ℕ) → line_at place (scope_of job) rest ≡ None → (item : Item place)
    → Says place (scope_of job) rest item → ⊥
says_none place job rest none item says =
    none_some none (ap (line_at place (scope_of job)) says.1.1 ∙ line_again place (scope_of job) item says.1.0 says.0)

-- the reason of a line that isn't empty
reason_by : (place : Place) (job : Job) (form text : Bool) (b : ℕ) (rest : List ℕ) (why : LineWhy) → place ≢ Over
    → item_form place (scope_of job) (b ∷ rest) ≡ form → is_text (b ∷ rest) ≡ text
    → line_at place (scope_of job) (b ∷ rest) ≡ None → cond text (cond form BadValue Form) Text ≡ why → Kind place job
    (b ∷ rest) why
reason_by place job true true b rest why open_ f e none h =
    let bad : HasBadValue place job (b ∷ rest) = record {
      to_come = open_;
      text = e;
      form = f;
      says_nothing = says_none place job (b ∷ rest) none;
    } in
    IsLine (text_whole (b ∷ rest) e) (inr (inl (sym h))) (subst (λ (w : LineWhy). IsAtFault w place job (b ∷ rest)) h bad)
reason_by place job false true b rest why open_ f e none h =
    let bad : HasNoForm place job (b ∷ rest) = record {
      to_come = open_;
      text = e;
      no_form = f;
      says_nothing = says_none place job (b ∷ rest) none;
    } in
    IsLine (text_whole (b ∷ rest) e) (inl (sym h)) (subst (λ (w : LineWhy). IsAtFault w place job (b ∷ rest)) h bad)
reason_by place job form false b rest why open_ f e none h =
    let bad : HasNoText place job (b ∷ rest) = record {
      to_come = open_;
      some = λ empty. cc;
      no_text = e;
      says_nothing = says_none place job (b ∷ rest) none;
    } in
    IsText bad (sym h)

reason_kind : (place : Place) (job : Job) (rest : List ℕ) (why : LineWhy) → place ≢ Over → (rest ≡ [] → ⊥)
    → line_at place (scope_of job) rest ≡ None → reason (item_form place (scope_of job)) rest ≡ why
    → Kind place job rest why
reason_kind place job [] why open_ some none h = absurd (some refl)
reason_kind place job (b ∷ rest) why open_ some none h =
    reason_by place job (item_form place (scope_of job) (b ∷ rest)) (is_text (b ∷ rest)) b rest why open_ refl refl none
    (sym (cond_no (eqb (length (b ∷ rest)) 0) Early _ (ne_eqb (length (b ∷ rest)) 0 (λ e. omega arith))) ∙ h)

-- a line that may not stand there
abbrev pub IsCounted : (place : Place) → Job → Item place → LineWhy → Type 0
IsCounted place job item why =
    ((why ≡ Entry) × IsTaken place job item)
    ⊎ ((why ≡ Count) × (IsTaken place job item → ⊥) × IsFull place job item)

unless_err : (o : Option LineWhy) (state : State) (why : LineWhy) → unless o state ≡ Err why → o ≡ Some why
unless_err None state why h = absurd (cc)
unless_err (Some w) state why h = cc

two_by : (t u : Bool) (why : LineWhy) → cond t (Some Entry) (cond u (Some Count) None) ≡ Some why
    → ((why ≡ Entry) × (t ≡ true)) ⊎ ((why ≡ Count) × (t ≡ true → ⊥) × (u ≡ true))
two_by true u why h = inl (cc, refl)
two_by false true why h = inr (cc, λ t. cc, refl)
two_by false false why h = absurd (cc)

one_by : (t : Bool) (why : LineWhy) → cond t (Some Count) None ≡ Some why → (why ≡ Count) × (t ≡ true)
one_by true why h = (cc, refl)
one_by false why h = absurd (cc)

-- one or the other, in other words
either : {A B C D : Type 0} → A ⊎ B → (A → C) → (B → D) → C ⊎ D
either (inl a) f g = inl (f a)
either (inr b) f g = inr (g b)

entry_by : (t : Bool) (why : LineWhy) → cond t (Some Entry) None ≡ Some why → (why ≡ Entry) × (t ≡ true)
entry_by true why h = (cc, refl)
entry_by false why h = absurd (cc)

opened_kind : (job : Job) (s : Section) (why : LineWhy) → after_section job s ≡ Err why → IsCounted AtScripts job s why
opened_kind job (section.Script node thread) why h =
    inl (entry_by (has_thread job.scripts node thread) why
    (unless_err (section_why job.scripts (section.Script node thread)) _ why h))
opened_kind job section.Schedule why h = absurd (cc)
opened_kind job section.Done why h = absurd (cc)

-- a script is never too much for its place
from_scripts : (job : Job) (s : Section) (why : LineWhy) → IsCounted AtScripts job s why
    → IsCounted AtHandlers job (Other s) why
from_scripts job s why (inl taken) = inl taken
from_scripts job s why (inr full) = absurd full.2

headed_kind : (job : Job) (item : HandlerItem) (why : LineWhy) → after_handler_line job item ≡ Err why
    → IsCounted AtHandlers job item why
headed_kind job (Named header) why h =
    let most = most_handlers (scope_of job) in
    either (two_by (has_index job.handlers header.index || is_reserved (scope_of job) header.index)
    (leb most (length job.handlers)) why (unless_err (handler_why (scope_of job) job.handlers header.index) _ why h))
    (λ t. t) (λ u. (u.0, u.1, leb-true most (length job.handlers) u.2))
headed_kind job (Other s) why h = from_scripts job s why (opened_kind job s why h)

collected_kind : (job : Job) (item : CollectItem) (why : LineWhy) → after_collect job item ≡ Err why
    → IsCounted AtCollect job item why
collected_kind job (Named area) why h = absurd (cc)
collected_kind job (Other item) why h = headed_kind job item why h

served_kind : (job : Job) (item : AtomicsItem) (why : LineWhy) → after_atomics job item ≡ Err why
    → IsCounted AtAtomics job item why
served_kind job (Named line) why h = absurd (cc)
served_kind job (Other item) why h = collected_kind job item why h

paired_kind : (job : Job) (item : PairItem) (why : LineWhy) → after_pair job item ≡ Err why → IsCounted AtPairs job item why
paired_kind job (Named pair) why h =
    either (two_by (has_pair job.settings.pairs pair) (leb 64 (length job.settings.pairs)) why
    (unless_err (pair_why job.settings.pairs pair) _ why h)) (λ t. t) (λ u.
    (u.0, u.1, leb-true 64 (length job.settings.pairs) u.2))
paired_kind job (Other item) why h = served_kind job item why h

next_kind : (place : Place) (job : Job) (item : Item place) (why : LineWhy) → next place job item ≡ Err why
    → IsCounted place job item why
next_kind (AtSetting setting) job item why h = absurd (cc)
next_kind AtSieve job item why h = absurd (cc)
next_kind AtPairs job item why h = paired_kind job item why h
next_kind AtAtomics job item why h = served_kind job item why h
next_kind AtCollect job item why h = collected_kind job item why h
next_kind AtHandlers job item why h = headed_kind job item why h
next_kind (AtBody handler) job None why h = absurd (cc)
next_kind (AtBody handler) job (Some a) why h =
    let o = one_by (leb 64 (length handler.body)) why (unless_err (action_why handler.body) _ why h) in
    inr (o.0, λ taken. absurd taken, leb-true 64 (length handler.body) o.1)
next_kind AtScripts job s why h = opened_kind job s why h
next_kind (AtSteps script) job None why h = absurd (cc)
next_kind (AtSteps script) job (Some s) why h =
    let before = scripts_pieces job.scripts in
    let o = one_by (is_full_script (before + steps_pieces script.steps) (length script.steps) s) why
    (unless_err (step_why before script.steps s) _ why h) in
    inr (o.0, λ taken. absurd taken, o.1)
next_kind AtSchedule job None why h = absurd (cc)
next_kind AtSchedule job (Some t) why h =
    let before = scripts_pieces job.scripts in
    let o = one_by (is_full job.settings.nodes (amounts_of before (lines_of job.schedule)) t.event) why
    (unless_err (line_why job.settings.nodes before (lines_of job.schedule) t) _ why h) in
    inr (o.0, λ taken. absurd taken, o.1)
next_kind AtDone job item why h = absurd (cc)
next_kind Over job item why h = absurd item

counted_line : (place : Place) (job : Job) (rest : List ℕ) (why : LineWhy) (item : Item place) → IsWhole rest
    → Says place (scope_of job) rest item → IsCounted place job item why → Kind place job rest why
counted_line place job rest why item w says (inl e) =
    let bad : IsRepeated place job rest = record { item = item; says = says; taken = e.1 } in
    IsLine w (inr (inr (inl e.0))) (subst (λ (x : LineWhy). IsAtFault x place job rest) (sym e.0) bad)
counted_line place job rest why item w says (inr e) =
    let bad : IsTooMany place job rest = record { item = item; says = says; is_new = e.1; full = e.2 } in
    IsLine w (inr (inr (inr e.0))) (subst (λ (x : LineWhy). IsAtFault x place job rest) (sym e.0) bad)

onward_err : (rest : List ℕ) (r : Result State LineWhy) (why : LineWhy) → onward rest r ≡ Err why → r ≡ Err why
onward_err rest (Ok state) why h = absurd (cc)
onward_err rest (Err w) why h = cc

kind_by : (state : State) (rest : List ℕ) (why : LineWhy) (o : Option (Item state.place × List ℕ))
    → line_at state.place (scope_of state.job) rest ≡ o → state.place ≢ Over → (rest ≡ [] → ⊥)
    → after_item state.place state.job (why_at state.place (scope_of state.job) rest) o ≡ Err why
    → Kind state.place state.job rest why
kind_by state rest why None e open_ some h = reason_kind state.place state.job rest why open_ some e (cc)
kind_by state rest why (Some y) e open_ some h =
    let said = (line_takes state.place (scope_of state.job) rest).so y e in
    let whole : IsWhole rest = record {
      line = item_text state.place (scope_of state.job) y.0;
      more = y.1;
      flat = (place_exact state.place (scope_of state.job)).flat y.0 said.1;
      text = said.0;
    } in
    counted_line state.place state.job rest why y.0 whole (said.1, (y.1, said.0))
    (next_kind state.place state.job y.0 why (onward_err y.1 (next state.place state.job y.0) why h))

fail_kind : (state : State) (rest : List ℕ) (why : LineWhy) → state.place ≢ Over → (rest ≡ [] → ⊥)
    → step state rest ≡ Err why → Kind state.place state.job rest why
unfolding step
fail_kind state rest why open_ some h =
    kind_by state rest why (line_at state.place (scope_of state.job) rest) refl open_ some h

-- ---- no job's text goes on with that line

err_ok : {A B : Type 0} {a : A} {b : B} {r : Result A B} → r ≡ Err b → r ≡ Ok a → ⊥
err_ok h k = cc

-- what is read of lines that go on has a first step
step_some : (count : ℕ) (state : State) (line : ℕ) (bytes : List ℕ) (end : State) (rest : List ℕ) (prefix : LeadingJob)
    (result : Result LeadingJob BadLine) → IsOpen state.place → Walks count state bytes end rest
    → EndsAs end rest line result → result ≡ Ok prefix → (to : State × List ℕ) × (step state bytes ≡ Ok to)
step_some zero state line bytes end rest prefix result open_ w (Ends o e r) h = absurd (err_ok r h)
step_some zero state line bytes end rest prefix result open_ w (Fails why o s f r) h = absurd (err_ok r h)
step_some zero state line bytes end rest prefix result open_ w (IsOver over r) h =
    absurd (subst IsOpen (ap (λ (s : State). s.place) w.0 ∙ over) open_)
step_some (suc count) state line bytes end rest prefix result open_ w ends h = ((w.to, w.rest), w.is)

-- lines that end at the same place
flat_same : (a b x y : List ℕ) → IsFlat a → IsFlat b → a ++ 10 ∷ x ≡ b ++ 10 ∷ y → a ≡ b
flat_same [] [] x y h k e = refl
flat_same [] (c ∷ b) x y h k e = absurd (ten_not c k.0 (cc))
  where
    ten_not : (c : ℕ) → eqb c 10 ≡ false → 10 ≡ c → ⊥
    ten_not c e same = eqb-false c 10 e (sym same)
flat_same (c ∷ a) [] x y h k e = absurd (ten_not c h.0 (cc))
  where
    ten_not : (c : ℕ) → eqb c 10 ≡ false → c ≡ 10 → ⊥
    ten_not c e same = eqb-false c 10 e same
flat_same (c ∷ a) (d ∷ b) x y h k e = cons_same c d a b (cc) (flat_same a b x y h.1 k.1 (cc))
  where
    cons_same : (c d : ℕ) (a b : List ℕ) → c ≡ d → a ≡ b → ◌≡◌ {A = List ℕ} (c ∷ a) (d ∷ b)
    cons_same c d a b p q = cc

-- a whole line that isn't read
wrong_line : (state : State) (number : ℕ) (rest : List ℕ) (why : LineWhy) (w : IsWhole rest) (more : List ℕ)
    (prefix : LeadingJob) → IsOpen state.place → IsState state.place state.job → step state rest ≡ Err why
    → read state number (w.line ++ 10 ∷ more) ≡ Ok prefix → ⊥
wrong_line state number rest why w more prefix open_ is f h =
    let bytes = w.line ++ 10 ∷ more in
    let o = read_outcome state number bytes in
    let s = step_some o.count state (number + o.count) bytes o.end o.rest prefix
    (read state number bytes) open_ o.walks o.ends h in
    let one = step_keeps state bytes s.0.0 s.0.1 is (step_of state bytes s.0 s.1) in
    let same : w.line ≡ one.line = flat_same w.line one.line more s.0.1 w.flat one.flat one.text in
    err_ok f (ap (step state) (w.text ∙ ap (λ (l : List ℕ). l ++ 10 ∷ w.more) same) ∙ one.again w.more)

first_some : (rest : List ℕ) → (rest ≡ [] → ⊥) → length (first_lines 1 rest) ≡ 0 → ⊥
first_some [] some h = some refl
first_some (b ∷ rest) some h = absurd (omega arith)

-- a byte behind the end
wrong_byte : (state : State) (number : ℕ) (bytes : List ℕ) (job : Job) (line : ℕ) → state.place ≡ Over
    → (length bytes ≡ 0 → ⊥) → read state number bytes ≡ Ok (leading_job job line []) → ⊥
wrong_byte state number bytes job line over some h =
    some (ap (λ (f : LeadingJob). length f.rest) (prefix_same (sym (ap
    (λ (p : Place). read (record { place = p; job = state.job }) number bytes) over
    ∙ over_read state.job number bytes) ∙ h)))

prefix_first : (count : ℕ) (bytes : List ℕ) (end : State) (rest : List ℕ) (w : IsWalk count bytes end rest)
    → first_lines (count + 1) bytes ≡ spell w.walked.between ++ first_lines 1 rest
prefix_first count bytes end rest w =
    let k = w.walked in
    ap (first_lines (count + 1)) k.text ∙ ap (λ (n : ℕ). first_lines (n + 1) (spell k.between ++ rest)) (sym k.many)
    ∙ first_spelled k.between rest 1 k.flat

-- what a job's text would be read as behind the walk
read_behind : (count : ℕ) (bytes : List ℕ) (end : State) (rest : List ℕ) (w : IsWalk count bytes end rest)
    (job : Job) (more : List ℕ) → IsJob job → job_text job ≡ first_lines (count + 1) bytes ++ more → read end
    (1 + count) (first_lines 1 rest ++ more) ≡ Ok (leading_job job (1 + length (job_lines job)) [])
read_behind count bytes end rest w job more is e =
    let k = w.walked in
    let x = first_lines 1 rest ++ more in
    let text : job_text job ≡ spell k.between ++ x = e ∙ ap (λ (f : List ℕ). f ++ more)
    (prefix_first count bytes end rest w) ∙ append_assoc (spell k.between) (first_lines 1 rest) more in
    sym (walk_read count start 1 (spell k.between ++ x) end x (k.again x)) ∙ ap (read start 1) (sym text)
    ∙ ap (read start 1) (sym (append-nil (job_text job))) ∙ job_read job is []

length_join : (a b : List ℕ) → (length a ≡ 0 → ⊥) → length (a ++ b) ≡ 0 → ⊥
length_join [] b some h = some refl
length_join (x ∷ a) b some h = absurd (omega arith)

no_prefix_over : (count : ℕ) (bytes : List ℕ) (end : State) (rest : List ℕ) → IsWalk count bytes end rest → end.place
    ≡ Over → (rest ≡ [] → ⊥) → IsNoPrefix (first_lines (count + 1) bytes)
no_prefix_over count bytes end rest w over some job more is e =
    wrong_byte end (1 + count) (first_lines 1 rest ++ more) job (1 + length (job_lines job)) over
    (length_join (first_lines 1 rest) more (first_some rest some)) (read_behind count bytes end rest w job more is e)

no_prefix_line : (count : ℕ) (bytes : List ℕ) (end : State) (rest : List ℕ) → IsWalk count bytes end rest →
    (why : LineWhy) → IsOpen end.place → step end rest ≡ Err why → IsWhole rest
    → IsNoPrefix (first_lines (count + 1) bytes)
no_prefix_line count bytes end rest w why open_ f whole job more is e =
    let first : first_lines 1 rest ≡ whole.line ++ 10 ∷ [] = ap (first_lines 1) whole.text
    ∙ first_flat whole.line whole.more 0 whole.flat ∙ ap (λ (r : List ℕ). whole.line ++ 10 ∷ r)
    (first_none whole.more) in
    let text : first_lines 1 rest ++ more ≡ whole.line ++ 10 ∷ more = ap (λ (x : List ℕ). x ++ more) first
    ∙ append_assoc whole.line (10 ∷ []) more in
    wrong_line end (1 + count) rest why whole more (leading_job job (1 + length (job_lines job)) []) open_ w.walked.is f
    (ap (read end (1 + count)) (sym text) ∙ read_behind count bytes end rest w job more is e)

-- ---- each reason

-- the bytes behind the lines that were read
after_of : (count line : ℕ) (bytes : List ℕ) (end : State) (rest : List ℕ) → IsWalk count bytes end rest → line
    ≡ 1 + count
    → after_lines (line - 1) bytes ≡ rest
after_of count line bytes end rest w e =
    let k = w.walked in
    ap (λ (n : ℕ). after_lines n bytes) (omega (arith, e, k.many)) ∙ ap (after_lines (length k.between)) k.text
    ∙ after_spelled k.between rest k.flat

-- what came before the line
before_of : (count line : ℕ) (bytes : List ℕ) (end : State) (rest : List ℕ) → IsWalk count bytes end rest
    → Walks count start bytes end rest → line ≡ 1 + count → Before bytes line
before_of count line bytes end rest w walks e =
    let k = w.walked in
    let many : length (so_far end.place end.job) ≡ count = ap length k.lines ∙ k.many in
    record {
      place = end.place;
      job = end.job;
      is = sound_job (completed_job end.place end.job) (sound_completed end.place end.job k.is);
      unread = unread end.place end.job k.is;
      reached = walk_reached count start bytes end rest tt walks;
      count = omega (arith, e, many);
      lines = ap (λ (n : ℕ). first_lines n bytes) (omega (arith, e)) ∙ walk_lines count bytes end rest w
          ∙ ap spell (sym k.lines);
    }

-- the line behind a walk is wrong
wrong : (count line : ℕ) (bytes : List ℕ) (end : State) (rest : List ℕ) (why : LineWhy)
    → Walks count start bytes end rest → line ≡ 1 + count → NoneGoesOn why (first_lines (count + 1) bytes)
    → IsAtFault why end.place end.job rest → IsWrong bytes line why
unfolding before_of
wrong count line bytes end rest why walks e none fault =
    let w = walk_of count bytes end rest walks in
    record {
      before = before_of count line bytes end rest w walks e;
      fault = subst (λ (r : List ℕ). IsAtFault why end.place end.job r) (sym
          (after_of count line bytes end rest w e)) fault;
      prefix = walk_prefix count bytes end rest w (first_lines (line - 1) bytes) (ap (λ (n : ℕ). first_lines n bytes)
          (omega (arith, e)));
      none = subst (λ (n : ℕ). NoneGoesOn why (first_lines n bytes)) (omega (arith, e)) none;
    }

-- a whole line that isn't read
wrong_found : (found : LineWhy) (count line : ℕ) (bytes : List ℕ) (end : State) (rest : List ℕ) (why : LineWhy)
    → Walks count start bytes end rest → line ≡ 1 + count → IsOpen end.place → step end rest ≡ Err why → IsWhole rest
    → why ≡ found → (IsNoPrefix (first_lines (count + 1) bytes) → NoneGoesOn found (first_lines (count + 1) bytes))
    → IsAtFault why end.place end.job rest → IsWrong bytes line found
wrong_found found count line bytes end rest why walks e open_ f whole is none fault =
    wrong count line bytes end rest found walks e
    (none (no_prefix_line count bytes end rest (walk_of count bytes end rest walks) why open_ f whole))
    (subst (λ (x : LineWhy). IsAtFault x end.place end.job rest) is fault)

-- what a refusal within a job's lines means
abbrev pub IsLineWrong : List ℕ → (line : ℕ) → LineWhy → Type 0
IsLineWrong bytes line Size = ⊥
IsLineWrong bytes line After = ⊥
IsLineWrong bytes line why = IsWrong bytes line why

means_by : (count line : ℕ) (bytes : List ℕ) (end : State) (rest : List ℕ) (why : LineWhy)
    → Walks count start bytes end rest → line ≡ 1 + count → IsOpen end.place → step end rest ≡ Err why
    → Kind end.place end.job rest why → IsLineWrong bytes line why
means_by count line bytes end rest why w e open_ f (IsText bad is) =
    subst (IsLineWrong bytes line) (sym is) (wrong count line bytes end rest Text w e tt bad)
means_by count line bytes end rest why w e open_ f (IsLine whole (inl is) fault) =
    subst (IsLineWrong bytes line) (sym is)
    (wrong_found Form count line bytes end rest why w e open_ f whole is (λ n. n) fault)
means_by count line bytes end rest why w e open_ f (IsLine whole (inr (inl is)) fault) =
    subst (IsLineWrong bytes line) (sym is)
    (wrong_found BadValue count line bytes end rest why w e open_ f whole is (λ n. n) fault)
means_by count line bytes end rest why w e open_ f (IsLine whole (inr (inr (inl is))) fault) =
    subst (IsLineWrong bytes line) (sym is)
    (wrong_found Entry count line bytes end rest why w e open_ f whole is (λ n. n) fault)
means_by count line bytes end rest why w e open_ f (IsLine whole (inr (inr (inr is))) fault) =
    subst (IsLineWrong bytes line) (sym is)
    (wrong_found Count count line bytes end rest why w e open_ f whole is (λ n. n) fault)

-- ---- what is told of lines

bad_same : {A : Type 0} {bad found : BadLine} → ◌≡◌ {A = Result A BadLine} (Err bad) (Err found) → bad ≡ found
bad_same h = cc

ends_mean : (bytes : List ℕ) (found : BadLine) (count : ℕ) (end : State) (rest : List ℕ)
    (result : Result LeadingJob BadLine) → Walks count start bytes end rest → EndsAs end rest (1 + count) result → result
    ≡ Err found → IsLineWrong bytes found.line found.why
ends_mean bytes found count end rest result w (Ends open_ none r) h =
    subst (λ (b : BadLine). IsLineWrong bytes b.line b.why) (bad_same (sym r ∙ h))
    (wrong count (1 + count) bytes end rest Early w refl tt (not_over end.place open_, none))
ends_mean bytes found count end rest result w (Fails why open_ some f r) h =
    subst (λ (b : BadLine). IsLineWrong bytes b.line b.why) (bad_same (sym r ∙ h))
    (means_by count (1 + count) bytes end rest why w refl open_ f
    (fail_kind end rest why (not_over end.place open_) some f))
ends_mean bytes found count end rest result w (IsOver over r) h = absurd (err_ok h r)

read_means : (bytes : List ℕ) (found : BadLine) → read start 1 bytes ≡ Err found
    → IsLineWrong bytes found.line found.why
read_means bytes found h =
    let o = read_outcome start 1 bytes in
    ends_mean bytes found o.count o.end o.rest (read start 1 bytes) o.walks o.ends h

-- of a text that isn't too long, and of one behind which bytes may follow
line_means : (bytes : List ℕ) (line : ℕ) (why : LineWhy) → length bytes ≤ MAX_JOB_BYTES → IsLineWrong bytes line why
    → Means bytes line why
line_means bytes line Size few h = absurd h
line_means bytes line Early few h = (h, few)
line_means bytes line Text few h = (h, few)
line_means bytes line Form few h = (h, few)
line_means bytes line BadValue few h = (h, few)
line_means bytes line Entry few h = (h, few)
line_means bytes line Count few h = (h, few)
line_means bytes line After few h = absurd h

line_prefix_means : (bytes : List ℕ) (line : ℕ) (why : LineWhy) → IsLineWrong bytes line why → PrefixMeans bytes line why
line_prefix_means bytes line Size h = absurd h
line_prefix_means bytes line Early h = h
line_prefix_means bytes line Text h = h
line_prefix_means bytes line Form h = h
line_prefix_means bytes line BadValue h = h
line_prefix_means bytes line Entry h = h
line_prefix_means bytes line Count h = h
line_prefix_means bytes line After h = absurd h

-- ---- bytes behind a job

ends_after : (bytes : List ℕ) (prefix : LeadingJob) (count : ℕ) (end : State) (rest : List ℕ)
    (result : Result LeadingJob BadLine) → Walks count start bytes end rest → EndsAs end rest (1 + count) result → result
    ≡ Ok prefix → (length prefix.rest ≡ 0 → ⊥) → IsWrong bytes prefix.line After
ends_after bytes prefix count end rest result w (Ends open_ none r) h some = absurd (err_ok r h)
ends_after bytes prefix count end rest result w (Fails why open_ s f r) h some = absurd (err_ok r h)
ends_after bytes prefix count end rest result w (IsOver over r) h some =
    let same : leading_job end.job (1 + count) rest ≡ prefix = prefix_same (sym r ∙ h) in
    let bytes_behind : rest ≡ [] → ⊥ = λ e. some (ap (λ (f : LeadingJob). length f.rest) (sym same) ∙ ap length e) in
    subst (λ (f : LeadingJob). IsWrong bytes f.line After) same
    (wrong count (1 + count) bytes end rest After w refl
    (no_prefix_over count bytes end rest (walk_of count bytes end rest w) over bytes_behind) (over, bytes_behind))

after_by : (bytes : List ℕ) (prefix : LeadingJob) (found : BadLine) (t : Bool) → eqb (length prefix.rest) 0 ≡ t
    → read start 1 bytes ≡ Ok prefix → ◌≡◌ {A = Result Job BadLine}
    (cond t (Ok prefix.job) (Err (record { line = prefix.line; why = After }))) (Err found)
    → length bytes ≤ MAX_JOB_BYTES → Means bytes found.line found.why
after_by bytes prefix found true e r h few = absurd (err_ok h refl)
after_by bytes prefix found false e r h few =
    let o = read_outcome start 1 bytes in
    subst (λ (b : BadLine). Means bytes b.line b.why) (bad_same h) (
      ends_after bytes prefix o.count o.end o.rest (read start 1 bytes) o.walks o.ends r (eqb-false
          (length prefix.rest) 0 e),
      few,
    )

alone_means : (bytes : List ℕ) (found : BadLine) (r : Result LeadingJob BadLine) → read start 1 bytes ≡ r
    → of_prefix alone r ≡ Err found → length bytes ≤ MAX_JOB_BYTES → Means bytes found.line found.why
alone_means bytes found (Err bad) e h few =
    line_means bytes found.line found.why few (read_means bytes found (e ∙ ap (λ (b : BadLine). Err b) (bad_same h)))
alone_means bytes found (Ok prefix) e h few = after_by bytes prefix found (eqb (length prefix.rest) 0) refl e h few

means_of : (bytes : List ℕ) (found : BadLine) (t : Bool) → ltb MAX_JOB_BYTES (length bytes) ≡ t → job_of bytes ≡ Err found
    → Means bytes found.line found.why
unfolding job_of
means_of bytes found true e h =
    subst (λ (b : BadLine). Means bytes b.line b.why) (bad_same {A = Job} (sym (cond_yes _ _ _ e) ∙ h))
    (refl, ltb-true MAX_JOB_BYTES (length bytes) e)
means_of bytes found false e h =
    alone_means bytes found (read start 1 bytes) refl (sym (cond_no _ _ _ e) ∙ h) (ltb-false MAX_JOB_BYTES (length bytes) e)

-- the one job of a text
text_read : (bytes : List ℕ) (job : Job) → JobText job bytes → job_of bytes ≡ Ok job
unfolding job_of
text_read bytes job is = cond_no _ _ _ (le-ltb MAX_JOB_BYTES (length bytes) is.within)
    ∙ ap (λ (b : List ℕ). of_prefix alone (read start 1 b)) (is.text ∙ sym (append-nil (job_text job)))
    ∙ ap (of_prefix alone) (job_read job is.is_job [])

ok_same : {A : Type 0} {a b : A} → ◌≡◌ {A = Result A BadLine} (Ok a) (Ok b) → a ≡ b
ok_same h = cc

pub gives_one : (r : Result Job JobFault) (bytes : List ℕ) → GivesAt (λ (j : Job). j) r (job_of bytes) → IfOk r
    (λ job. (other : Job) → JobText other bytes → other ≡ job)
gives_one (Ok job) bytes h = λ other is. ok_same (sym (text_read bytes other is) ∙ h)
gives_one (Err fault) bytes h = tt

pub gives_meant : (r : Result Job JobFault) (bytes : List ℕ) → GivesAt (λ (j : Job). j) r (job_of bytes) → IfErr r
    (λ fault. IsMeant bytes fault)
gives_meant (Ok job) bytes h = tt
gives_meant (Err faults.NoMemory) bytes h = tt
gives_meant (Err (faults.Bad line why)) bytes h = means_of bytes (record { line = line; why = why }) (ltb MAX_JOB_BYTES
    (length bytes)) refl h

pub gives_none : (r : Result Job JobFault) (bytes : List ℕ) → GivesAt (λ (j : Job). j) r (job_of bytes) → IfErr r
    (λ fault. IsNoMemory fault ⊎ ((job : Job) → JobText job bytes → ⊥))
gives_none (Ok job) bytes h = tt
gives_none (Err faults.NoMemory) bytes h = inl tt
gives_none (Err (faults.Bad line why)) bytes h = inr (λ job is. err_ok h (text_read bytes job is))

-- ---- bytes that begin with a job's text

-- a job's text that is too long
long_by : (bytes : List ℕ) (prefix : LeadingJob) (found : BadLine) (x : Job × ℕ) (t : Bool)
    → ltb MAX_JOB_BYTES (length bytes - length prefix.rest) ≡ t → read start 1 bytes ≡ Ok prefix → ◌≡◌
    {A = Result (Job × ℕ) BadLine} (cond t (Err (record { line = 0; why = Size })) (Ok x)) (Err found)
    → PrefixMeans bytes found.line found.why
long_by bytes prefix found x true e r h =
    let p = read_text bytes prefix r in
    let size : length bytes - length prefix.rest ≡ length (job_text prefix.job) = omega
    (arith, rest_size bytes prefix r) in
    let lt = ltb-true MAX_JOB_BYTES (length bytes - length prefix.rest) e in
    let long : IsTooLong bytes = record {
      job = prefix.job;
      is = p.0;
      rest = prefix.rest;
      text = p.1;
      long = omega (arith, lt, size);
    } in
    subst (λ (b : BadLine). PrefixMeans bytes b.line b.why) (bad_same h) (refl, long)
long_by bytes prefix found x false e r h = absurd (err_ok h refl)

sized_means : (bytes : List ℕ) (found : BadLine) (r : Result LeadingJob BadLine) → read start 1 bytes ≡ r
    → of_prefix (within_size (length bytes)) r ≡ Err found → PrefixMeans bytes found.line found.why
sized_means bytes found (Err bad) e h =
    line_prefix_means bytes found.line found.why
    (read_means bytes found (e ∙ ap (λ (b : BadLine). Err b) (bad_same h)))
sized_means bytes found (Ok prefix) e h =
    long_by bytes prefix found _ (ltb MAX_JOB_BYTES (length bytes - length prefix.rest)) refl e h

-- the one job of a prefix
prefix_read : (bytes : List ℕ) (job : Job) (size : ℕ) → BeginsWith job size bytes → prefix_of bytes ≡ Ok (job, size)
unfolding prefix_of
prefix_read bytes job size is =
    let line = 1 + length (job_lines job) in
    let behind : length bytes ≡ length (job_text job) + length is.rest =
    ap length is.text ∙ length-append (job_text job) is.rest in
    let count : length bytes - length is.rest ≡ size = omega (arith, behind, is.long) in
    let few : length bytes - length is.rest ≤ MAX_JOB_BYTES = omega (arith, count, is.within) in
    ap (λ (b : List ℕ). of_prefix (within_size (length bytes)) (read start 1 b)) is.text
    ∙ ap (of_prefix (within_size (length bytes))) (job_read job is.is_job is.rest)
    ∙ is_sized job line (length bytes) is.rest few
    ∙ ap (λ (n : ℕ). Ok (job, n)) count

pub gives_prefix_one : (r : Result (Job × ℕ) JobFault) (bytes : List ℕ)
    → GivesAt (λ (x : Job × ℕ). x) r (prefix_of bytes) → IfOk r
    (λ x. (other : Job) (size : ℕ) → BeginsWith other size bytes → (other ≡ x.0) × (size ≡ x.1))
gives_prefix_one (Ok x) bytes h = λ other size is.
    let same : (other, size) ≡ x = ok_same (sym (prefix_read bytes other size is) ∙ h) in
    (ap (λ (y : Job × ℕ). y.0) same, ap (λ (y : Job × ℕ). y.1) same)
gives_prefix_one (Err fault) bytes h = tt

pub gives_prefix_meant : (r : Result (Job × ℕ) JobFault) (bytes : List ℕ)
    → GivesAt (λ (x : Job × ℕ). x) r (prefix_of bytes) → IfErr r (λ fault. IsPrefixMeant bytes fault)
unfolding prefix_of
gives_prefix_meant (Ok x) bytes h = tt
gives_prefix_meant (Err faults.NoMemory) bytes h = tt
gives_prefix_meant (Err (faults.Bad line why)) bytes h =
    sized_means bytes (record { line = line; why = why }) (read start 1 bytes) refl h

pub gives_prefix_none : (r : Result (Job × ℕ) JobFault) (bytes : List ℕ)
    → GivesAt (λ (x : Job × ℕ). x) r (prefix_of bytes) → IfErr r
    (λ fault. IsNoMemory fault ⊎ ((job : Job) (size : ℕ) → BeginsWith job size bytes → ⊥))
gives_prefix_none (Ok x) bytes h = tt
gives_prefix_none (Err faults.NoMemory) bytes h = inl tt
gives_prefix_none (Err (faults.Bad line why)) bytes h =
    inr (λ job size is. err_ok h (prefix_read bytes job size is))
