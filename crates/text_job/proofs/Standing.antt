-- Lines lead only to places where what came before says so.
use Rattle.std.proofs.Common.{◌≡◌, ◌≢◌, inl, inr, ℕ, zero, suc, List, [], ◌∷◌, ◌++◌, Some, None, Result, Ok, refl, subst}
use Rattle.text_job.specs.Places.{Setting, Version, Nodes, Credits, Threads, Segment, Last, Resend, Patience}
use Rattle.text_job.specs.Places as places
use Rattle.text_job.specs.Places.{Place, AtSetting, AtSieve, AtPairs, AtAtomics, AtHandlers, AtBody}
use Rattle.text_job.specs.Places.{AtScripts, AtSteps}
use Rattle.text_job.specs.Places.{AtCollect, AtSchedule, AtDone, Over, Named, Other, Item, HandlerItem}
use Rattle.text_job.specs.Places.{CollectItem}
use Rattle.text_job.specs.Places.{AtomicsItem}
use Rattle.text_job.specs.Scopes.{scope_of}
use Rattle.text_job.specs.JobReading.{State, behind_setting, next, after_section, after_handler_line, after_collect, after_atomics}
use Rattle.text_job.specs.JobReading.{pair_why}
use Rattle.text_job.specs.JobReading.{handler_why, section_why, action_why, step_why, line_why, lines_of}
use Rattle.text_job.specs.PlanPieces.{scripts_pieces}
use Rattle.text_job.specs.Refusals.{IsReached}
use Rattle.base_text.specs.declared.why.LineWhy.{LineWhy}
use Rattle.text_job.specs.declared.job.Job.{Job}
use Rattle.text_job.specs.declared.sections.Section.{Section}
use Rattle.text_job.specs.declared.sections.Section.TheVariants as section
use Rattle.text_job.proofs.LineRuns.{IsOpen}
use Rattle.text_job.proofs.StateLaws.{unless_ok, ok_same}
use Rattle.text_job.proofs.Walks.{Walks, step_of}

-- where a line is to come the text isn't over
pub not_over : (place : Place) → IsOpen place → place ≢ Over
not_over place open_ over = subst IsOpen over open_

abbrev pub Stands : State → Type 0
Stands state = IsReached state.place state.job

-- behind what was read
by_ok : (a b : State) → ◌≡◌ {A = Result State LineWhy} (Ok a) (Ok b) → Stands a → Stands b
by_ok a b h stands = subst Stands (ok_same h) stands

some_more : {A : Type 0} (xs : List A) (x : A) → xs ++ x ∷ [] ≢ []
some_more [] x h = cc
some_more (y ∷ xs) x h = cc

behind_stands : (setting : Setting) (job : Job) → IsReached (behind_setting setting) job
behind_stands Version job = tt
behind_stands places.Job job = tt
behind_stands Nodes job = tt
behind_stands Credits job = tt
behind_stands Threads job = tt
behind_stands Segment job = tt
behind_stands Last job = tt
behind_stands Resend job = tt
behind_stands Patience job = tt

opened_stands : (job : Job) (s : Section) (state : State) → after_section job s ≡ Ok state → Stands state
opened_stands job (section.Script node thread) state h =
    subst Stands (unless_ok (section_why job.scripts (section.Script node thread)) _ state h).1 tt
opened_stands job section.Schedule state h = by_ok _ state h tt
opened_stands job section.Done state h = by_ok _ state h tt

headed_stands : (job : Job) (item : HandlerItem) (state : State) → after_handler_line job item ≡ Ok state
    → Stands state
headed_stands job (Named header) state h =
    subst Stands (unless_ok (handler_why (scope_of job) job.handlers header.index) _ state h).1 tt
headed_stands job (Other s) state h = opened_stands job s state h

collected_stands : (job : Job) (item : CollectItem) (state : State) → after_collect job item ≡ Ok state → Stands state
collected_stands job (Named area) state h = by_ok _ state h (inl refl)
collected_stands job (Other item) state h = headed_stands job item state h

served_stands : (job : Job) (item : AtomicsItem) (state : State) → after_atomics job item ≡ Ok state → Stands state
served_stands job (Named line) state h = by_ok _ state h refl
served_stands job (Other item) state h = collected_stands job item state h

-- the place behind a line that was read
pub next_stands : (place : Place) (job : Job) (item : Item place) (state : State) → next place job item ≡ Ok state
    → Stands state
next_stands (AtSetting setting) job number state h = by_ok _ state h (behind_stands setting _)
next_stands AtSieve job rule state h = by_ok _ state h tt
next_stands AtPairs job (Named pair) state h = subst Stands (unless_ok (pair_why job.settings.pairs pair) _ state h).1 tt
next_stands AtPairs job (Other item) state h = served_stands job item state h
next_stands AtAtomics job item state h = served_stands job item state h
next_stands AtCollect job item state h = collected_stands job item state h
next_stands AtHandlers job item state h = headed_stands job item state h
next_stands (AtBody handler) job None state h = by_ok _ state h (inr (some_more job.handlers handler))
next_stands (AtBody handler) job (Some a) state h =
    subst Stands (unless_ok (action_why handler.body) _ state h).1 tt
next_stands AtScripts job item state h = opened_stands job item state h
next_stands (AtSteps script) job None state h = by_ok _ state h (some_more job.scripts script)
next_stands (AtSteps script) job (Some s) state h =
    subst Stands (unless_ok (step_why (scripts_pieces job.scripts) script.steps s) _ state h).1 tt
next_stands AtSchedule job None state h = by_ok _ state h tt
next_stands AtSchedule job (Some t) state h =
    subst Stands (unless_ok (line_why job.settings.nodes (scripts_pieces job.scripts) (lines_of job.schedule) t) _ state h).1
    tt
next_stands AtDone job item state h = by_ok _ state h tt
next_stands Over job item state h = absurd item

pub walk_reached : (count : ℕ) (state : State) (bytes : List ℕ) (end : State) (rest : List ℕ) → Stands state
    → Walks count state bytes end rest → Stands end
walk_reached zero state bytes end rest stands w = subst Stands w.0 stands
walk_reached (suc count) state bytes end rest stands w =
    let one = step_of state bytes (w.to, w.rest) w.is in
    walk_reached count w.to w.rest end rest (next_stands state.place state.job one.item w.to one.goes) w.behind
