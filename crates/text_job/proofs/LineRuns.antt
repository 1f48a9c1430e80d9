-- A text, line by line.
use Rattle.std.proofs.Common.{◌≡◌, ◌⊎◌, inl, inr, ℕ, ◌+◌, List, [], ◌∷◌, ◌++◌, Option, Some, None, Ok, Err}
use Rattle.std.proofs.Common.{refl, ap, sym, ◌∙◌}
use Rattle.text_job.specs.Scopes.{scope_of}
use Rattle.text_calls.specs.declared.scope.Scope.{Scope}
use Rattle.base_text.specs.Reasons.{reason}
use Rattle.text_job.specs.HeadReading.{found_in_line}
use Rattle.text_job.specs.Places.{AtAtomics, AtCollect}
use Rattle.text_job.specs.Places.{Place, AtSetting, AtSieve, AtPairs, AtHandlers, AtBody, AtScripts, AtSteps}
use Rattle.text_job.specs.Places.{AtSchedule, AtDone, Over, Item, item_form, item_text, IsItem}
use Rattle.text_job.specs.JobReading.{State, BadLine, leading_job, line_at, next, step, from_later_lines}
use Rattle.text_job.specs.JobReading.{from_lines, over_or, read_lines, read}
use Rattle.text_job.specs.Reading.{FailsAt}
use Rattle.text_job.specs.declared.fault.JobFault.{JobFault}
use Rattle.text_job.specs.declared.fault.JobFault.TheVariants as faults
use Rattle.base_text.specs.declared.why.LineWhy.{LineWhy}
use Rattle.text_job.specs.declared.job.Job.{Job}
use Rattle.base_text.proofs.Prefixes.{cond_no}
use Rattle.base_text.proofs.Takes.{Takes, takes_some, takes_then}
use Rattle.text_calls.proofs.FormLaws.{IsFlat}
use Rattle.base_text.proofs.Seams.{ended_takes}
use Rattle.text_job.proofs.PlaceLaws.{place_exact}

-- the later lines begin behind the end of the first one
later_lines : (text rest : List ℕ) → IsFlat text → from_later_lines (text ++ 10 ∷ rest) ≡ from_lines rest
unfolding from_lines
later_lines [] rest h = refl
later_lines (b ∷ text) rest h = cond_no _ _ _ h.0 ∙ later_lines text rest h.1

-- the first line, and those behind it
pub first_line : (text rest : List ℕ) → IsFlat text → from_lines (text ++ 10 ∷ rest) ≡ (text
    ++ 10 ∷ rest) ∷ from_lines rest
unfolding from_lines
first_line [] rest h = refl
first_line (b ∷ text) rest h = ap (λ (ls : List (List ℕ)). (b ∷ (text ++ 10 ∷ rest)) ∷ ls) (later_lines
    (b ∷ text) rest h)

-- what a line says, and the bytes after it
abbrev pub IsLineOf : (place : Place) → Scope → List ℕ → Item place × List ℕ → Type 0
IsLineOf place scope bytes x = (bytes ≡ item_text place scope x.0 ++ 10 ∷ x.1) × IsItem place scope x.0

pub line_takes : (place : Place) (scope : Scope) (bytes : List ℕ) → Takes (IsLineOf place scope bytes)
    (line_at place scope bytes)
line_takes place scope bytes =
    takes_then (λ (x : Item place × List ℕ). (bytes ≡ item_text place scope x.0 ++ x.1) × IsItem place scope x.0)
    ((place_exact place scope).takes bytes) (λ x h.
    takes_then (λ (rest : List ℕ). x.1 ≡ 10 ∷ rest) (ended_takes x.1) (λ rest e.
    takes_some {P = IsLineOf place scope bytes} {x = (x.0, rest)} (
      h.0 ∙ ap
          (λ (r : List ℕ). item_text place scope x.0 ++ r) e,
      h.1,
    )))

-- a line is read again
pub line_again : (place : Place) (scope : Scope) (item : Item place) (rest : List ℕ)
    → IsItem place scope item → line_at place scope (item_text place scope item ++ 10 ∷ rest) ≡ Some (
      item,
      rest,
    )
line_again place scope item rest h = rw ((place_exact place scope).again item rest h) refl

-- the lines from a line on that was read
pub lines_after : (place : Place) (scope : Scope) (bytes : List ℕ) (x : Item place × List ℕ)
    → line_at place scope bytes ≡ Some x → from_lines bytes ≡ bytes ∷ from_lines x.1
lines_after place scope bytes x h =
    let t = (line_takes place scope bytes).so x h in
    ap from_lines t.0 ∙ first_line (item_text place scope x.0) x.1 ((place_exact place scope).flat x.0 t.1)
    ∙ ap (λ (b : List ℕ). b ∷ from_lines x.1) (sym t.0)

-- ---- places at which lines go on

abbrev pub IsOpen : Place → Type 0
IsOpen Over = ⊥
IsOpen place = Unit {0}

pub goes_on : {A : Type 0} (place : Place) (over other : A) → IsOpen place → over_or place over other ≡ other
goes_on (AtSetting setting) over other open_ = refl
goes_on AtSieve over other open_ = refl
goes_on AtPairs over other open_ = refl
goes_on AtAtomics over other open_ = refl
goes_on AtCollect over other open_ = refl
goes_on AtHandlers over other open_ = refl
goes_on (AtBody handler) over other open_ = refl
goes_on AtScripts over other open_ = refl
goes_on (AtSteps script) over other open_ = refl
goes_on AtSchedule over other open_ = refl
goes_on AtDone over other open_ = refl
goes_on Over over other open_ = absurd open_

-- a line stands there
pub open_of : (place : Place) → Item place → IsOpen place
open_of (AtSetting setting) item = tt
open_of AtSieve item = tt
open_of AtPairs item = tt
open_of AtAtomics item = tt
open_of AtCollect item = tt
open_of AtHandlers item = tt
open_of (AtBody handler) item = tt
open_of AtScripts item = tt
open_of (AtSteps script) item = tt
open_of AtSchedule item = tt
open_of AtDone item = tt
open_of Over item = absurd item

-- they go on, or the text is over
pub open_or_over : (place : Place) → IsOpen place ⊎ (place ≡ Over)
open_or_over (AtSetting setting) = inl tt
open_or_over AtSieve = inl tt
open_or_over AtPairs = inl tt
open_or_over AtAtomics = inl tt
open_or_over AtCollect = inl tt
open_or_over AtHandlers = inl tt
open_or_over (AtBody handler) = inl tt
open_or_over AtScripts = inl tt
open_or_over (AtSteps script) = inl tt
open_or_over AtSchedule = inl tt
open_or_over AtDone = inl tt
open_or_over Over = inr refl

-- ---- a line

-- a line was read, and there is room for it
pub read_on : (place : Place) (job : Job) (line : ℕ) (bytes rest : List ℕ) (item : Item place) (state : State)
    → line_at place (scope_of job) bytes ≡ Some (item, rest) → next place job item ≡ Ok state → read
    (record { place = place; job = job }) line bytes ≡ read state (line + 1) rest
unfolding read read_lines step
read_on place job line bytes rest item state h n =
    rw (lines_after place (scope_of job) bytes (item, rest) h) (goes_on place _ _ (open_of place item) ∙ rw (h, n) refl)

-- a line was read, and it may not stand there
pub read_full : (place : Place) (job : Job) (line : ℕ) (bytes rest : List ℕ) (item : Item place) (why : LineWhy)
    → line_at place (scope_of job) bytes ≡ Some (item, rest) → next place job item ≡ Err why → read
    (record { place = place; job = job }) line bytes ≡ Err (record { line = line; why = why })
unfolding read read_lines step
read_full place job line bytes rest item why h n =
    rw (lines_after place (scope_of job) bytes (item, rest) h) (goes_on place _ _ (open_of place item) ∙ rw (h, n) refl)

-- a line isn't read
abbrev pub Refuses : Place → Type 0
Refuses place = (job : Job) (line : ℕ) (bytes : List ℕ) → line_at place (scope_of job) bytes ≡ None
    → read (record { place = place; job = job }) line bytes ≡ Err
    (record { line = line; why = reason (item_form place (scope_of job)) bytes })

pub line_bad : (place : Place) → IsOpen place → Refuses place
unfolding read read_lines step from_lines
line_bad place open_ job line [] h = goes_on place _ _ open_
line_bad place open_ job line (b ∷ bytes) h = goes_on place _ _ open_ ∙ rw h refl

-- no line is to come
pub over_read : (job : Job) (line : ℕ) (bytes : List ℕ) → read (record { place = Over; job = job }) line bytes ≡ Ok
    (leading_job job line bytes)
unfolding read read_lines from_lines
over_read job line [] = refl
over_read job line (b ∷ bytes) = refl

-- ---- what is told of a line

pub told_ok : {A : Type 0} (line : ℕ) (why : LineWhy) (found : Option A) (x : A) → found_in_line line why found ≡ Ok x → found
    ≡ Some x
told_ok line why None x h = absurd (cc)
told_ok line why (Some y) x h = cc

told_err : {A : Type 0} (line : ℕ) (why : LineWhy) (found : Option A) (bad : BadLine) → found_in_line line why found ≡ Err bad →
    (found ≡ None) × (record { line = line; why = why } ≡ bad)
told_err line why None bad h = (refl, cc)
told_err line why (Some y) bad h = absurd (cc)

-- a line that fails is the first bad one
pub line_fails : (place : Place) (open_ : IsOpen place) (job : Job) (line : ℕ) (bytes : List ℕ) (fault : JobFault)
    → FailsAt fault (found_in_line line (reason (item_form place (scope_of job)) bytes) (line_at place (scope_of job) bytes))
    → FailsAt fault (read (record { place = place; job = job }) line bytes)
line_fails place open_ job line bytes faults.NoMemory h = tt
line_fails place open_ job line bytes (faults.Bad at why) h =
    let bad = told_err line (reason (item_form place (scope_of job)) bytes) (line_at place (scope_of job) bytes)
    (record { line = at; why = why }) h in
    line_bad place open_ job line bytes bad.0 ∙ ap (λ (b : BadLine). Err b) bad.1
