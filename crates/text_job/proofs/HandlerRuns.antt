-- The lines of handlers, of scripts and of the schedule, as loops read them.
use Rattle.std.proofs.Common.{◌≡◌, ℕ, ◌+◌, ◌*◌, ◌<◌, ◌≤◌, ◌||◌, List, [], ◌∷◌, ◌++◌, length, leb, ltb, Option}
use Rattle.std.proofs.Common.{Some, None, Result, Err, Bool, true, false, cond, refl, ap, sym, ◌∙◌, arith}
use Rattle.std.proofs.Common.{length-append}
use Rattle.std.proofs.lemmas.Bool.{leb-false, ltb-false, ltb-true, lt-ltb, and_parts, and_from, or_parts}
use Rattle.base_text.specs.Reasons.{reason, why_of}
use Rattle.text_job.specs.Places.{section_fits}
use Rattle.text_job.specs.JobReading.{has_thread, has_index, is_reserved, most_beside, most_handlers}
use Rattle.text_job.specs.JobReading.{handler_why}
use Rattle.text_job.specs.JobReading.{section_why}
use Rattle.text_job.specs.JobReading.{behind_scripts, behind_section}
use Rattle.text_job.specs.JobReading.{is_schedule, BadLine, amounts_of, with_event, is_full, amounts_with}
use Rattle.text_job.specs.JobReading.{total_rounds}
use Rattle.text_job.specs.JobReading.{rounds_of, is_full_script}
use Rattle.text_job.specs.PlanPieces.{event_pieces, schedule_pieces}
use Rattle.text_job.specs.StepPieces.{step_pieces}
use Rattle.base_text.specs.declared.why.LineWhy.{LineWhy}
use Rattle.base_text.specs.declared.why.LineWhy.TheVariants.{Count, Entry}
use Rattle.text_job.specs.declared.job.HandlerText.{HandlerText}
use Rattle.text_job.specs.declared.job.Job.{Job}
use Rattle.text_job.specs.declared.job.NodeScript.{NodeScript}
use Rattle.text_steps.specs.declared.steps.ScheduledEvent.{ScheduledEvent}
use Rattle.text_steps.specs.declared.steps.ScriptStep.{ScriptStep}
use Rattle.text_steps.specs.declared.steps.TimedEvent.{TimedEvent}
use Rattle.text_calls.specs.declared.scope.Scope.{Scope}
use Rattle.text_job.specs.declared.schedules.Amounts.{Amounts}
use Rattle.text_job.specs.declared.sections.Section.{Section}
use Rattle.text_job.specs.declared.sections.Section.TheVariants as section
use Rattle.text_job.proofs.PlanPieces.{schedule_more}

-- a reason that was found is the reason
pub told_by : {A : Type 0} (total : Result A BadLine) (line : ℕ) (why found : LineWhy) → total ≡ Err
    (record { line = line; why = why }) → found ≡ why → total ≡ Err (record { line = line; why = found })
told_by total line why found h e = h ∙ ap (λ (w : LineWhy). Err (record { line = line; why = w })) (sym e)

-- a reason, by the test of the form
pub reason_by : (form : List ℕ → Bool) (bytes : List ℕ) (test : Bool) (why : LineWhy) → test ≡ form bytes → why
    ≡ why_of test bytes → why ≡ reason form bytes
reason_by form bytes test why e h = h ∙ ap (λ (t : Bool). why_of t bytes) e

-- ---- scripts

-- what begins no script
pub other_section : (job : Job) (begun : Section) → ((node thread : ℕ) → begun ≡ section.Script node thread → ⊥)
    → behind_section job begun ≡ behind_scripts (is_schedule begun) job
other_section job (section.Script node thread) none = absurd (none node thread refl)
other_section job section.Schedule none = refl
other_section job section.Done none = refl

-- the thread of a script is there
pub script_there : (nodes threads node thread : ℕ) → section_fits nodes threads (section.Script node thread) ≡ true
    → (node < nodes) × (thread < threads)
script_there nodes threads node thread h =
    let parts = and_parts (ltb node nodes) (ltb thread threads) h in
    (ltb-true node nodes parts.0, ltb-true thread threads parts.1)

-- and where there are more of them
pub there_among : (nodes threads : ℕ) (begun : Section) → section_fits nodes threads begun ≡ true → nodes ≤ 256
    → threads ≤ 16 → section_fits 256 16 begun ≡ true
there_among nodes threads (section.Script node thread) h n t =
    let is = script_there nodes threads node thread h in
    and_from _ _ (lt-ltb node 256 (omega (arith, is.0, n))) (lt-ltb thread 16 (omega (arith, is.1, t)))
there_among nodes threads section.Schedule h n t = refl
there_among nodes threads section.Done h n t = refl

-- a script of its thread isn't there yet
pub script_new : (scripts : List NodeScript) (node thread : ℕ)
    → section_why scripts (section.Script node thread) ≡ None → has_thread scripts node thread ≡ false
script_new scripts node thread h = new_by (has_thread scripts node thread) h
  where
    new_by : (t : Bool) → cond t (Some Entry) None ≡ None → t ≡ false
    new_by true k = absurd (cc)
    new_by false k = refl

-- there is room for one more handler
room_by : (t u : Bool) (a b : LineWhy) → cond t (Some a) (cond u (Some b) None) ≡ None → u ≡ false
room_by true u a b h = absurd (cc)
room_by false true a b h = absurd (cc)
room_by false false a b h = refl

pub most_few : (scope : Scope) → most_handlers scope ≤ 128
most_few scope = few_of scope.atomics scope.collect
  where
    few_of : (atomics collect : Bool) → most_beside atomics collect ≤ 128
    few_of true true = omega arith
    few_of true false = omega arith
    few_of false true = omega arith
    few_of false false = omega arith

pub room_for : (scope : Scope) (handlers : List HandlerText) (index : ℕ) → handler_why scope handlers index ≡ None
    → length handlers < 128
room_for scope handlers index h =
    let few = leb-false (most_handlers scope) (length handlers) (room_by (has_index handlers index
    || is_reserved scope index) (leb (most_handlers scope) (length handlers)) Entry Count h) in
    omega (arith, few, most_few scope)

-- ---- the schedule

-- an event that is let in, and one that isn't
let_in_by : (b : Bool) (a v : Amounts) → ◌≡◌ {A = Option Amounts} (cond b None (Some a)) (Some v) → (b ≡ false) × (a ≡ v)
let_in_by true a v h = absurd (cc)
let_in_by false a v h = (refl, cc)

kept_out_by : (b : Bool) (a : Amounts) → ◌≡◌ {A = Option Amounts} (cond b None (Some a)) None → b ≡ true
kept_out_by true a h = refl
kept_out_by false a h = absurd (cc)

pub let_in : (nodes : ℕ) (so_far : Amounts) (e : ScheduledEvent) (v : Amounts) → amounts_with nodes so_far e ≡ Some v →
    (is_full nodes so_far e ≡ false) × (with_event so_far e ≡ v)
let_in nodes so_far e v h = let_in_by (is_full nodes so_far e) (with_event so_far e) v h

pub kept_out : (nodes : ℕ) (so_far : Amounts) (e : ScheduledEvent) → amounts_with nodes so_far e ≡ None
    → is_full nodes so_far e ≡ true
kept_out nodes so_far e h = kept_out_by (is_full nodes so_far e) (with_event so_far e) h

-- the rounds with one line more
pub rounds_more : (lines : List TimedEvent) (e : TimedEvent) → total_rounds (lines ++ e ∷ [])
    ≡ total_rounds lines + rounds_of e.event
rounds_more [] e = omega arith
rounds_more (l ∷ lines) e = let more = rounds_more lines e in omega arith

-- how much there is with one line more
same_amounts : (lines rounds pieces l r p : ℕ) → lines ≡ l → rounds ≡ r → pieces ≡ p → ◌≡◌ {A = Amounts}
    (record { lines = lines; rounds = rounds; pieces = pieces }) (record { lines = l; rounds = r; pieces = p })
same_amounts lines rounds pieces l r p e f g = rw (e, f, g) refl

pub amounts_more : (before : ℕ) (lines : List TimedEvent) (t : TimedEvent) → amounts_of before (lines ++ t ∷ [])
    ≡ with_event (amounts_of before lines) t.event
amounts_more before lines t =
    let pieces = schedule_more lines t in
    same_amounts (length (lines ++ t ∷ [])) (total_rounds (lines ++ t ∷ [])) (before + schedule_pieces
    (lines ++ t ∷ [])) (length lines + 1) (total_rounds lines + rounds_of t.event) (before + schedule_pieces lines
    + event_pieces t.event) (simp length-append) (rounds_more lines t) (omega (arith, pieces))

-- where an event is let in, there is room for it
few_by : (lines rounds nodes pieces : ℕ)
    → (leb 65536 lines || ((ltb 4096 rounds || ltb 262144 (rounds * nodes)) || ltb 65536 pieces)) ≡ false →
    (lines < 65536) × (rounds ≤ 4096) × (rounds * nodes ≤ 262144) × (pieces ≤ 65536)
few_by lines rounds nodes pieces h =
    let many = ltb 4096 rounds || ltb 262144 (rounds * nodes) in
    let a = or_parts (leb 65536 lines) (many || ltb 65536 pieces) h in
    let b = or_parts many (ltb 65536 pieces) a.1 in
    let c = or_parts (ltb 4096 rounds) (ltb 262144 (rounds * nodes)) b.0 in (
      leb-false 65536 lines a.0,
      ltb-false 4096 rounds c.0,
      ltb-false 262144 (rounds * nodes) c.1,
      ltb-false 65536 pieces b.1,
    )

pub few_full : (nodes : ℕ) (so_far : Amounts) (e : ScheduledEvent) → is_full nodes so_far e ≡ false →
    (so_far.lines < 65536) × (so_far.rounds + rounds_of e ≤ 4096) × ((so_far.rounds + rounds_of e) * nodes ≤ 262144)
    × (so_far.pieces + event_pieces e ≤ 65536)
few_full nodes so_far e h =
    few_by so_far.lines (so_far.rounds + rounds_of e) nodes (so_far.pieces + event_pieces e) h

-- where a step is let in, there is room for it
pub few_steps : (pieces steps : ℕ) (s : ScriptStep) → is_full_script pieces steps s ≡ false →
    (steps < 4096) × (pieces + step_pieces s ≤ 65536)
few_steps pieces steps s h =
    let parts = or_parts (leb 4096 steps) (ltb 65536 (pieces + step_pieces s)) h in
    (leb-false 4096 steps parts.0, ltb-false 65536 (pieces + step_pieces s) parts.1)
