-- What was read so far is the prefix of a job's text.
use Rattle.std.proofs.Common.{◌≡◌, ℕ, Bool, true, false, List, [], ◌∷◌, ◌++◌, map, Option, Some, None, Result, Ok, refl, sym, ap, subst}
use Rattle.std.proofs.Common.{◌∙◌, codes, append_assoc, append-nil}
use Rattle.std.specs.List.{flat_map}
use Rattle.std.proofs.lemmas.List.Concat.{flat_map-append}
use Rattle.std.proofs.lemmas.List.{map-append}
use Rattle.wire_message.specs.Parameters.{Parameters}
use Rattle.wire_message.specs.declared.pairs.PairCredits.{PairCredits}
use Rattle.text_steps.specs.Bodies.{action_text}
use Rattle.text_steps.specs.Events.{timed_text}
use Rattle.text_steps.specs.Scripts.{step_text}
use Rattle.text_job.specs.Places.{Setting, Version, Nodes, Credits, Threads, Segment, Last, Resend, Patience}
use Rattle.text_job.specs.Places as places
use Rattle.text_job.specs.Places.{AtAtomics, AtCollect, atomics_text, collect_text, HandlerItem, CollectItem}
use Rattle.text_job.specs.Places.{AtomicsItem, PairItem}
use Rattle.text_job.specs.Scopes.{scope_of}
use Rattle.text_job.specs.Places.{Place, AtSetting, AtSieve, AtPairs, AtHandlers, AtBody, AtScripts, AtSteps}
use Rattle.text_job.specs.Places.{AtSchedule, AtDone, Over}
use Rattle.text_job.specs.Places.{Named, Other, Item, item_text}
use Rattle.text_job.specs.JobReading.{State, with_number, behind_setting, lines_of, unless, next}
use Rattle.text_job.specs.JobReading.{after_collect, after_atomics, with_atomics, with_collect}
use Rattle.text_job.specs.JobReading.{after_section, after_handler_line, after_pair, after_action, after_script_line, after_event, pair_why}
use Rattle.text_job.specs.JobReading.{handler_why}
use Rattle.text_job.specs.JobReading.{section_why, action_why, step_why, line_why}
use Rattle.text_job.specs.PlanPieces.{scripts_pieces}
use Rattle.text_job.specs.JobText.{Line, all_settings, pair_line, header_line}
use Rattle.text_job.specs.JobText.{handler_lines, timed_lines, schedule_lines, head_lines, lines_with_pairs}
use Rattle.text_job.specs.JobText.{atomics_lines, collect_lines, lines_with_atomics, lines_with_collect}
use Rattle.text_job.specs.JobText.{script_line, script_lines, lines_with_handlers, lines_with_scripts}
use Rattle.text_job.specs.Refusals.{so_far, IsUnread}
use Rattle.base_text.specs.declared.why.LineWhy.{LineWhy}
use Rattle.text_steps.specs.declared.steps.Action.{Action}
use Rattle.text_job.specs.declared.job.CollectArea.{CollectArea}
use Rattle.text_job.specs.declared.job.HandlerText.{HandlerText}
use Rattle.text_job.specs.declared.job.Job.{Job}
use Rattle.text_job.specs.declared.job.NodeScript.{NodeScript}
use Rattle.text_steps.specs.declared.steps.ScriptStep.{ScriptStep}
use Rattle.text_steps.specs.declared.steps.TimedEvent.{TimedEvent}
use Rattle.text_job.specs.declared.sections.HandlerHeader.{HandlerHeader}
use Rattle.text_job.specs.declared.sections.Section.{Section}
use Rattle.text_job.specs.declared.sections.Section.TheVariants as section

-- ---- lines that are left

-- the settings from one on
abbrev pub from_on : Setting → List Setting
from_on Version = all_settings
from_on places.Job = places.Job ∷ Nodes ∷ Credits ∷ Threads ∷ Segment ∷ Last ∷ Resend ∷ Patience ∷ []
from_on Nodes = Nodes ∷ Credits ∷ Threads ∷ Segment ∷ Last ∷ Resend ∷ Patience ∷ []
from_on Credits = Credits ∷ Threads ∷ Segment ∷ Last ∷ Resend ∷ Patience ∷ []
from_on Threads = Threads ∷ Segment ∷ Last ∷ Resend ∷ Patience ∷ []
from_on Segment = Segment ∷ Last ∷ Resend ∷ Patience ∷ []
from_on Last = Last ∷ Resend ∷ Patience ∷ []
from_on Resend = Resend ∷ Patience ∷ []
from_on Patience = Patience ∷ []

-- the line that ends a handler, and that which ends the text
abbrev pub end_line : Line
end_line = codes "end"

abbrev pub done_line : Line
done_line = codes "done"

-- ---- one line more

-- no lines
pub no_lines : {A : Type 0} (f : A → Line) (xs : List A) (prefix : List Line) → xs ≡ [] → prefix ++ map f xs ≡ prefix
no_lines f [] prefix e = append-nil prefix
no_lines f (x ∷ xs) prefix e = absurd (cc)

pub no_parts : {A : Type 0} (f : A → List Line) (xs : List A) (prefix : List Line) → xs ≡ []
    → prefix ++ flat_map f xs ≡ prefix
no_parts f [] prefix e = append-nil prefix
no_parts f (x ∷ xs) prefix e = absurd (cc)

-- a line at the end of some
one_more : {A : Type 0} (f : A → Line) (xs : List A) (x : A) (prefix : List Line) → prefix ++ map f (xs ++ x ∷ []) ≡
    (prefix ++ map f xs) ++ f x ∷ []
one_more f xs x prefix = ap (λ (ls : List Line). prefix ++ ls) (map-append f xs (x ∷ [])) ∙ sym
    (append_assoc prefix (map f xs) (f x ∷ []))

one_behind : {A : Type 0} (f : A → Line) (xs : List A) (x : A) (first : Line) (prefix : List Line) → prefix ++
    (first ∷ map f (xs ++ x ∷ [])) ≡ (prefix ++ (first ∷ map f xs)) ++ f x ∷ []
one_behind f xs x first prefix = ap (λ (ls : List Line). prefix ++ (first ∷ ls)) (map-append f xs (x ∷ [])) ∙ sym
    (append_assoc prefix (first ∷ map f xs) (f x ∷ []))

-- a part more, which has these lines and the line `end`
part_more : {A : Type 0} (f : A → List Line) (xs : List A) (x : A) (prefix lines : List Line) → f x ≡ lines
    ++ end_line ∷ [] → prefix ++ flat_map f (xs ++ x ∷ []) ≡ ((prefix ++ flat_map f xs) ++ lines) ++ end_line ∷ []
part_more f xs x prefix lines e =
    ap (λ (ls : List Line). prefix ++ ls) (flat_map-append f xs (x ∷ []) ∙ ap
    (λ (ls : List Line). flat_map f xs ++ ls) (append-nil (f x)))
    ∙ sym (append_assoc prefix (flat_map f xs) (f x))
    ∙ ap (λ (ls : List Line). (prefix ++ flat_map f xs) ++ ls) e
    ∙ sym (append_assoc (prefix ++ flat_map f xs) lines (end_line ∷ []))

pub handler_more : (hs : List HandlerText) (h : HandlerText) (prefix : List Line) → prefix ++ flat_map handler_lines
    (hs ++ h ∷ []) ≡ ((prefix ++ flat_map handler_lines hs) ++ (header_line h ∷ map action_text h.body))
    ++ end_line ∷ []
handler_more hs h prefix = part_more handler_lines hs h prefix (header_line h ∷ map action_text h.body) refl

pub script_more : (ss : List NodeScript) (s : NodeScript) (prefix : List Line) → prefix ++ flat_map script_lines
    (ss ++ s ∷ []) ≡ ((prefix ++ flat_map script_lines ss) ++ (script_line s ∷ map step_text s.steps))
    ++ end_line ∷ []
script_more ss s prefix = part_more script_lines ss s prefix (script_line s ∷ map step_text s.steps) refl

-- the lines with what a line says
abbrev pub SaysMore : (place : Place) → Job → Item place → State → Type 0
SaysMore place job item state = (so_far state.place state.job ≡ so_far place job
    ++ item_text place (scope_of job) item ∷ []) × IsUnread state.place state.job

setting_more : (setting : Setting) (number : ℕ) (job : Job) → IsUnread (AtSetting setting) job → SaysMore
    (AtSetting setting) job number (record { place = behind_setting setting; job = with_number setting number job })
setting_more Version number job u = (refl, u)
setting_more places.Job number job u = (refl, u)
setting_more Nodes number job u = (refl, u)
setting_more Credits number job u = (refl, u)
setting_more Threads number job u = (refl, u)
setting_more Segment number job u = (refl, u)
setting_more Last number job u = (refl, u)
setting_more Resend number job u = (refl, u)
setting_more Patience number job u = (refl, u)

-- equal results
pub ok_same : {a b : State} → ◌≡◌ {A = Result State LineWhy} (Ok a) (Ok b) → a ≡ b
ok_same h = cc

-- what stands behind a test
pub unless_ok : (why : Option LineWhy) (state found : State) → unless why state ≡ Ok found → (why ≡ None) × (state
    ≡ found)
unless_ok None state found h = (refl, cc)
unless_ok (Some why) state found h = absurd (cc)

-- the schedule is none
pub none_schedule : (settings : Parameters) (schedule : Option (List TimedEvent)) (prefix : List Line) → schedule
    ≡ None → prefix ++ (schedule_lines settings schedule ++ done_line ∷ []) ≡ prefix ++ done_line ∷ []
none_schedule settings None prefix e = refl
none_schedule settings (Some lines) prefix e = absurd (cc)

opened_more : (job : Job) (s : Section) (state : State) → IsUnread AtScripts job → after_section job s ≡ Ok state
    → SaysMore AtScripts job s state
opened_more job (section.Script node thread) state u h =
    let p = unless_ok (section_why job.scripts (section.Script node thread)) _ state h in
    subst (λ (x : State). SaysMore AtScripts job (section.Script node thread) x) p.1 (refl, u)
opened_more job section.Schedule state u h = subst (λ (x : State). SaysMore AtScripts job section.Schedule x)
    (ok_same h) (refl, ([], refl))
opened_more job section.Done state u h = subst (λ (x : State). SaysMore AtScripts job section.Done x) (ok_same h)
    (none_schedule job.settings job.schedule (lines_with_scripts job) u, tt)

-- what has these lines has them by another place
headed_more : (job : Job) (item : HandlerItem) (state : State) → IsUnread AtHandlers job
    → after_handler_line job item ≡ Ok state → SaysMore AtHandlers job item state
headed_more job (Named header) state u h =
    let p = unless_ok (handler_why (scope_of job) job.handlers header.index) _ state h in
    subst (λ (x : State). SaysMore AtHandlers job (Named header) x) p.1 (refl, u)
headed_more job (Other s) state u h =
    let m = opened_more job s state u.1 h in (
      m.0 ∙ ap (λ (ls : List Line). ls ++ item_text AtScripts (scope_of job) s ∷ []) (no_parts script_lines job.scripts
          (lines_with_handlers job) u.0),
      m.1,
    )

-- the line of atomics isn't there, and neither is a handler
no_atomics : (atomics : Bool) (prefix : List Line) → atomics ≡ false → prefix ++ atomics_lines atomics ≡ prefix
no_atomics true prefix e = absurd (cc)
no_atomics false prefix e = append-nil prefix

-- nor is the line of collectives
no_collect : (collect : Option CollectArea) (prefix : List Line) → collect ≡ None → prefix ++ collect_lines collect ≡ prefix
no_collect None prefix e = append-nil prefix
no_collect (Some area) prefix e = absurd (cc)

-- the lines behind the line of collectives, behind which there is no handler
with_line_of_collectives : (job : Job) (area : CollectArea) → job.handlers ≡ []
    → lines_with_handlers (with_collect area job) ≡ lines_with_atomics job ++ collect_text area ∷ []
with_line_of_collectives job area none =
    no_parts handler_lines job.handlers (lines_with_collect (with_collect area job)) none

collected_more : (job : Job) (item : CollectItem) (state : State) → IsUnread AtCollect job
    → after_collect job item ≡ Ok state → SaysMore AtCollect job item state
collected_more job (Named area) state u h =
    subst (λ (x : State). SaysMore AtCollect job (Named area) x) (ok_same h)
    (with_line_of_collectives job area u.1, (u.2, u.3))
collected_more job (Other item) state u h =
    let m = headed_more job item state (u.2, u.3) h in (
      m.0 ∙ ap (λ (ls : List Line). ls ++ item_text AtHandlers (scope_of job) item ∷ [])
          (no_parts handler_lines job.handlers (lines_with_collect job) u.1
          ∙ no_collect job.collect (lines_with_atomics job) u.0),
      m.1,
    )

served_more : (job : Job) (item : AtomicsItem) (state : State) → IsUnread AtAtomics job → after_atomics job item ≡ Ok state
    → SaysMore AtAtomics job item state
served_more job (Named line) state u h =
    subst (λ (x : State). SaysMore AtAtomics job (Named line) x) (ok_same h) (refl, (u.1, u.2, u.3, u.4))
served_more job (Other item) state u h =
    let m = collected_more job item state (u.1, u.2, u.3, u.4) h in (
      m.0 ∙ ap (λ (ls : List Line). ls ++ item_text AtCollect (scope_of job) item ∷ [])
          (no_atomics job.atomics (lines_with_pairs job) u.0),
      m.1,
    )

paired_more : (job : Job) (item : PairItem) (state : State) → IsUnread AtPairs job → after_pair job item ≡ Ok state
    → SaysMore AtPairs job item state
paired_more job (Named pair) state u h =
    let p = unless_ok (pair_why job.settings.pairs pair) _ state h in
    subst (λ (x : State). SaysMore AtPairs job (Named pair) x) p.1 (
      one_more pair_line job.settings.pairs pair
          (head_lines job),
      u,
    )
paired_more job (Other item) state u h = served_more job item state u h

acted_more : (handler : HandlerText) (job : Job) (item : Option Action) (state : State) → IsUnread
    (AtBody handler) job → after_action handler job item ≡ Ok state → SaysMore (AtBody handler) job item state
acted_more handler job None state u h = subst (λ (x : State). SaysMore (AtBody handler) job None x) (ok_same h)
    (handler_more job.handlers handler (lines_with_collect job), u)
acted_more handler job (Some a) state u h =
    let p = unless_ok (action_why handler.body) _ state h in
    subst (λ (x : State). SaysMore (AtBody handler) job (Some a) x) p.1 (
      one_behind action_text handler.body a
          (header_line handler) (lines_with_handlers job),
      u,
    )

scripted_more : (script : NodeScript) (job : Job) (item : Option ScriptStep) (state : State) → IsUnread
    (AtSteps script) job → after_script_line script job item ≡ Ok state → SaysMore (AtSteps script) job item state
scripted_more script job None state u h = subst (λ (x : State). SaysMore (AtSteps script) job None x) (ok_same h)
    (script_more job.scripts script (lines_with_handlers job), u)
scripted_more script job (Some s) state u h =
    let p = unless_ok (step_why (scripts_pieces job.scripts) script.steps s) _ state h in
    subst (λ (x : State). SaysMore (AtSteps script) job (Some s) x) p.1 (
      one_behind step_text script.steps s
          (script_line script) (lines_with_scripts job),
      u,
    )

-- the end of a schedule
pub end_schedule : (settings : Parameters) (schedule : Option (List TimedEvent)) (prefix : List Line) →
    (lines : List TimedEvent) × (schedule ≡ Some lines) → prefix ++ schedule_lines settings schedule ≡ (prefix
    ++ (codes "schedule" ∷ timed_lines settings (lines_of schedule))) ++ end_line ∷ []
end_schedule settings None prefix e = absurd (cc)
end_schedule settings (Some lines) prefix e = sym (append_assoc prefix (codes "schedule" ∷ timed_lines settings lines)
    (end_line ∷ []))

scheduled_more : (job : Job) (item : Option TimedEvent) (state : State) → IsUnread AtSchedule job
    → after_event job item ≡ Ok state → SaysMore AtSchedule job item state
scheduled_more job None state u h = subst (λ (x : State). SaysMore AtSchedule job None x) (ok_same h)
    (end_schedule job.settings job.schedule (lines_with_scripts job) u, u)
scheduled_more job (Some t) state u h =
    let p = unless_ok (line_why job.settings.nodes (scripts_pieces job.scripts) (lines_of job.schedule) t) _ state h in
    subst (λ (x : State). SaysMore AtSchedule job (Some t) x) p.1 (
      one_behind
          (timed_text job.settings.nodes job.settings.threads) (lines_of job.schedule) t (codes "schedule")
          (lines_with_scripts job),
      (lines_of job.schedule ++ t ∷ [], refl),
    )

-- a line that was read is the next one
pub says_more : (place : Place) (job : Job) (item : Item place) (state : State) → IsUnread place job
    → next place job item ≡ Ok state → SaysMore place job item state
says_more (AtSetting setting) job number state u h = subst (λ (x : State). SaysMore (AtSetting setting) job number x)
    (ok_same h) (setting_more setting number job u)
says_more AtSieve job rule state u h = subst (λ (x : State). SaysMore AtSieve job rule x) (ok_same h)
    (no_lines pair_line job.settings.pairs (head_lines (record job { sieve = rule })) u.0, (u.1, u.2, u.3, u.4, u.5))
says_more AtPairs job item state u h = paired_more job item state u h
says_more AtAtomics job item state u h = served_more job item state u h
says_more AtCollect job item state u h = collected_more job item state u h
says_more AtHandlers job item state u h = headed_more job item state u h
says_more (AtBody handler) job item state u h = acted_more handler job item state u h
says_more AtScripts job item state u h = opened_more job item state u h
says_more (AtSteps script) job item state u h = scripted_more script job item state u h
says_more AtSchedule job item state u h = scheduled_more job item state u h
says_more AtDone job item state u h = subst (λ (x : State). SaysMore AtDone job item x) (ok_same h) (
  sym
      (append_assoc (lines_with_scripts job) (schedule_lines job.settings job.schedule) (done_line ∷ [])),
  tt,
)
says_more Over job item state u h = absurd item
