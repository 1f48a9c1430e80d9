-- What is known wherever a text was read up to.
use Rattle.std.proofs.Common.{◌≡◌, inl, inr, ℕ, ◌+◌, ◌<◌, ◌≤◌, ◌⊎◌, ◌||◌, Bool, true, false, eqb, leb, cond, List, []}
use Rattle.std.proofs.Common.{◌∷◌}
use Rattle.std.proofs.Common.{◌++◌, length, ltb, Option, Some, None, Ok, refl, subst, arith, length-append}
use Rattle.std.proofs.lemmas.Bool.{and_parts, or_parts, eqb-true, leb-true, leb-false, ltb-true}
use Rattle.wire_message.specs.declared.pairs.PairCredits.{PairCredits}
use Rattle.text_job.specs.Locks.{are_listed}
use Rattle.text_steps.specs.Bodies.{IsAction}
use Rattle.text_steps.specs.Scripts.{IsStep}
use Rattle.text_job.specs.Places.{Setting, Version, Nodes, Credits, Threads, Segment, Last, Resend, Patience}
use Rattle.text_job.specs.Places as places
use Rattle.text_job.specs.Places.{Place, AtSetting, AtSieve, AtPairs, AtHandlers, AtBody, AtScripts, AtSteps}
use Rattle.text_job.specs.Places.{AtAtomics, AtCollect, AtSchedule, AtDone, Over}
use Rattle.text_job.specs.Places.{HandlerItem, CollectItem, AtomicsItem, PairItem}
use Rattle.text_job.specs.Scopes.{scope_of}
use Rattle.text_job.specs.Places.{Named, Other, Item, IsItem}
use Rattle.text_job.specs.JobReading.{State, least_job, with_number, behind_setting, with_action, lines_of}
use Rattle.text_job.specs.JobReading.{next}
use Rattle.text_job.specs.JobReading.{with_step, begun_script, new_handler, after_section, after_handler_line, after_pair, after_action, after_script_line}
use Rattle.text_job.specs.JobReading.{after_event, after_collect, after_atomics, is_reserved, most_handlers}
use Rattle.text_job.specs.JobReading.{has_index, has_pair, has_thread, pair_why, handler_why, section_why}
use Rattle.text_job.specs.JobReading.{action_why}
use Rattle.text_job.specs.JobReading.{is_full_script, step_why, line_why}
use Rattle.text_job.specs.PlanPieces.{most_pieces, scripts_pieces}
use Rattle.text_job.specs.StepPieces.{step_pieces, steps_pieces}
use Rattle.text_job.specs.JobText.{IsHandler, IsNodeScript, IsSieve}
use Rattle.base_text.specs.declared.why.LineWhy.TheVariants.{Entry, Count}
use Rattle.text_steps.specs.declared.steps.Action.{Action}
use Rattle.text_job.specs.declared.job.HandlerText.{HandlerText}
use Rattle.text_job.specs.declared.job.Job.{Job}
use Rattle.text_job.specs.declared.job.NodeScript.{NodeScript}
use Rattle.text_steps.specs.declared.steps.ScriptStep.{ScriptStep}
use Rattle.text_job.specs.declared.job.SieveRule.{SieveRule}
use Rattle.text_steps.specs.declared.steps.TimedEvent.{TimedEvent}
use Rattle.text_job.specs.declared.sections.HandlerHeader.{HandlerHeader}
use Rattle.text_job.specs.declared.sections.Section.{Section}
use Rattle.text_job.specs.declared.sections.Section.TheVariants as section
use Rattle.text_job.proofs.HandlerRuns.{few_steps}
use Rattle.text_job.proofs.PlanPieces.{steps_more}
use Rattle.text_job.proofs.Ranges.{IsNumber, AreNumbers}
use Rattle.text_job.proofs.JobLaws.{AreLeast, numbers_more, IsHead, head_sound, IsSound, pair_sound}
use Rattle.text_job.proofs.JobLaws.{pair_free_by}
use Rattle.text_job.proofs.AreaLaws.{collect_is}
use Rattle.text_job.proofs.JobLaws.{atomics_sound, collect_sound, handler_sound, script_sound, all_more}
use Rattle.text_job.proofs.JobLaws.{empty_sound}
use Rattle.text_job.proofs.JobLaws.{line_sound}
use Rattle.text_job.specs.Refusals.{completed_job, IsUnread}
use Rattle.text_job.proofs.StateLaws.{unless_ok, ok_same}

-- a handler so far
pub record IsBegun (handler : HandlerText) (job : Job) : Type 0 where
  pub is : IsHandler handler
  pub new : has_index job.handlers handler.index ≡ false
  pub free : is_reserved (scope_of job) handler.index ≡ false
  pub few : length job.handlers < most_handlers (scope_of job)

-- a script so far
pub record IsBegunScript (script : NodeScript) (job : Job) : Type 0 where
  pub is : IsNodeScript (scope_of job) script
  pub new : has_thread job.scripts script.node script.thread ≡ false
  pub room : scripts_pieces job.scripts + steps_pieces script.steps ≤ most_pieces

abbrev pub IsState : Place → Job → Type 0
IsState (AtSetting setting) job = IsHead job × AreLeast setting job.settings
IsState AtSieve job = IsHead job
IsState AtPairs job =
    IsSound job × (job.atomics ≡ false) × (job.collect ≡ None) × (job.handlers ≡ []) × (job.scripts ≡ [])
    × (job.schedule ≡ None)
IsState AtAtomics job =
    IsSound job × (job.atomics ≡ false) × (job.collect ≡ None) × (job.handlers ≡ []) × (job.scripts ≡ [])
    × (job.schedule ≡ None)
IsState AtCollect job =
    IsSound job × (job.collect ≡ None) × (job.handlers ≡ []) × (job.scripts ≡ []) × (job.schedule ≡ None)
IsState AtHandlers job = IsSound job × (job.scripts ≡ []) × (job.schedule ≡ None)
IsState (AtBody handler) job = IsSound job × (job.scripts ≡ []) × (job.schedule ≡ None) × IsBegun handler job
IsState AtScripts job = IsSound job × (job.schedule ≡ None)
IsState (AtSteps script) job = IsSound job × (job.schedule ≡ None) × IsBegunScript script job
IsState AtSchedule job = IsSound job × ((lines : List TimedEvent) × (job.schedule ≡ Some lines))
IsState AtDone job = IsSound job × ((lines : List TimedEvent) × (job.schedule ≡ Some lines))
IsState Over job = IsSound job

pub unread : (place : Place) (job : Job) → IsState place job → IsUnread place job
unread (AtSetting setting) job is =
    (is.0.pairs, is.0.atomics, is.0.collect, is.0.handlers, is.0.scripts, is.0.schedule)
unread AtSieve job is = (is.pairs, is.atomics, is.collect, is.handlers, is.scripts, is.schedule)
unread AtPairs job is = (is.1, is.2, is.3, is.4, is.5)
unread AtAtomics job is = (is.1, is.2, is.3, is.4, is.5)
unread AtCollect job is = (is.1, is.2, is.3, is.4)
unread AtHandlers job is = (is.1, is.2)
unread (AtBody handler) job is = (is.1, is.2)
unread AtScripts job is = is.1
unread (AtSteps script) job is = is.1
unread AtSchedule job is = is.1
unread AtDone job is = is.1
unread Over job is = tt

-- with what is left it is a job
pub sound_completed : (place : Place) (job : Job) → IsState place job → IsSound (completed_job place job)
sound_completed (AtSetting setting) job is = head_sound job is.0
sound_completed AtSieve job is = head_sound job is
sound_completed AtPairs job is = is.0
sound_completed AtAtomics job is = is.0
sound_completed AtCollect job is = is.0
sound_completed AtHandlers job is = is.0
sound_completed (AtBody handler) job is = handler_sound job handler is.0 is.3.is is.3.new is.3.free is.3.few
sound_completed AtScripts job is = is.0
sound_completed (AtSteps script) job is = script_sound job script is.0 is.2.is is.2.new is.1 is.2.room
sound_completed AtSchedule job is = is.0
sound_completed AtDone job is = is.0
sound_completed Over job is = is

-- before the first line
least_numbers : AreNumbers least_job
least_numbers Version = record { low = omega arith; high = omega arith; fits = refl }
least_numbers places.Job = record { low = omega arith; high = omega arith; fits = refl }
least_numbers Nodes = record { low = omega arith; high = omega arith; fits = refl }
least_numbers Credits = record { low = omega arith; high = omega arith; fits = refl }
least_numbers Threads = record { low = omega arith; high = omega arith; fits = refl }
least_numbers Segment = record { low = omega arith; high = omega arith; fits = refl }
least_numbers Last = record { low = omega arith; high = omega arith; fits = refl }
least_numbers Resend = record { low = omega arith; high = omega arith; fits = refl }
least_numbers Patience = record { low = omega arith; high = omega arith; fits = refl }

pub start_is : IsState (AtSetting Version) least_job
start_is = (
  record {
    numbers = least_numbers;
    sieve = record { lose = omega arith; repeat = omega arith; swap = omega arith };
    pairs = refl;
    atomics = refl;
    collect = refl;
    handlers = refl;
    scripts = refl;
    schedule = refl;
  },
  (refl, refl, refl),
)

-- ---- one line more

-- a number changes nothing else
head_more : (setting : Setting) (number : ℕ) (job : Job) → IsHead job → AreNumbers (with_number setting number job)
    → IsHead (with_number setting number job)
head_more Version number job is all = record {
  numbers = all;
  sieve = is.sieve;
  pairs = is.pairs;
  atomics = is.atomics;
  collect = is.collect;
  handlers = is.handlers;
  scripts = is.scripts;
  schedule = is.schedule;
}
head_more Patience number job is all = record {
  numbers = all;
  sieve = is.sieve;
  pairs = is.pairs;
  atomics = is.atomics;
  collect = is.collect;
  handlers = is.handlers;
  scripts = is.scripts;
  schedule = is.schedule;
}
head_more setting number job is all = record {
  numbers = all;
  sieve = is.sieve;
  pairs = is.pairs;
  atomics = is.atomics;
  collect = is.collect;
  handlers = is.handlers;
  scripts = is.scripts;
  schedule = is.schedule;
}

setting_state : (setting : Setting) (number : ℕ) (job : Job) → IsState (AtSetting setting) job → IsHead
    (with_number setting number job) → IsState (behind_setting setting) (with_number setting number job)
setting_state Version number job is head = (head, is.1)
setting_state places.Job number job is head = (head, is.1)
setting_state Nodes number job is head = (head, tt)
setting_state Credits number job is head = (head, tt)
setting_state Threads number job is head = (head, tt)
setting_state Segment number job is head = (head, tt)
setting_state Last number job is head = (head, tt)
setting_state Resend number job is head = (head, tt)
setting_state Patience number job is head = head

-- the numbers beside a sieve
numbers_sieve : (job : Job) (rule : SieveRule) → AreNumbers job → AreNumbers (record job { sieve = rule })
numbers_sieve job rule all Version = all Version
numbers_sieve job rule all setting = all setting

sieve_head : (job : Job) (rule : SieveRule) → IsHead job → IsSieve rule → IsHead (record job { sieve = rule })
sieve_head job rule is one = record {
  numbers = numbers_sieve job rule is.numbers;
  sieve = one;
  pairs = is.pairs;
  atomics = is.atomics;
  collect = is.collect;
  handlers = is.handlers;
  scripts = is.scripts;
  schedule = is.schedule;
}

-- the index of a handler
index_by : (zero client : Bool) (index : ℕ) → eqb index 0 ≡ zero → leb 128 index ≡ client → (zero || client) ≡ true
    → index ≤ 255 → (index ≡ 0) ⊎ ((128 ≤ index) × (index < 256))
index_by true client index e f h high = inl (eqb-true index 0 e)
index_by false true index e f h high = inr (leb-true 128 index f, omega arith)
index_by false false index e f h high = absurd (cc)

-- no reason that a test gives
no_count : (b : Bool) → cond b (Some Count) None ≡ None → b ≡ false
no_count true h = absurd (cc)
no_count false h = refl

no_entry : (b : Bool) → cond b (Some Entry) None ≡ None → b ≡ false
no_entry true h = absurd (cc)
no_entry false h = refl

-- no reason against an action
action_free : (handler : HandlerText) → action_why handler.body ≡ None → length handler.body < 64
action_free handler h = leb-false 64 (length handler.body) (no_count (leb 64 (length handler.body)) h)

opened_state : (job : Job) (s : Section) (state : State) → IsState AtScripts job → IsItem AtScripts (scope_of job) s
    → after_section job s ≡ Ok state → IsState state.place state.job
opened_state job (section.Script node thread) state is item h =
    let p = unless_ok (section_why job.scripts (section.Script node thread)) _ state h in
    let there = and_parts (ltb node job.settings.nodes) (ltb thread job.settings.threads) item.1 in
    let few = is.0.pieces in
    let one : IsBegunScript (begun_script node thread) job = record {
      is = record {
        node = ltb-true node job.settings.nodes there.0;
        thread = ltb-true thread job.settings.threads there.1;
        count = omega arith;
        steps = tt;
      };
      new = no_entry (has_thread job.scripts node thread) p.0;
      room = omega (arith, few);
    } in
    subst (λ (x : State). IsState x.place x.job) p.1 (is.0, is.1, one)
opened_state job section.Schedule state is item h = subst (λ (x : State). IsState x.place x.job) (ok_same h)
    (empty_sound job is.0, ([], refl))
opened_state job section.Done state is item h = subst (λ (x : State). IsState x.place x.job) (ok_same h) is.0

headed_state : (job : Job) (item : HandlerItem) (state : State) → IsState AtHandlers job
    → IsItem AtHandlers (scope_of job) item → after_handler_line job item ≡ Ok state → IsState state.place state.job
headed_state job (Named header) state is item h =
    let p = unless_ok (handler_why (scope_of job) job.handlers header.index) _ state h in
    let most = most_handlers (scope_of job) in
    let free = pair_free_by (has_index job.handlers header.index || is_reserved (scope_of job) header.index)
    (leb most (length job.handlers)) Entry Count p.0 in
    let new = or_parts (has_index job.handlers header.index) (is_reserved (scope_of job) header.index) free.0 in
    let tests = and_parts (eqb header.index 0 || leb 128 header.index) (are_listed 0 header.locks) item.1 in
    let one : IsBegun (new_handler header) job = record {
      is = record {
        index = index_by (eqb header.index 0) (leb 128 header.index) header.index refl refl tests.0 item.0.0.1;
        locks = tests.1;
        count = omega arith;
        actions = tt;
      };
      new = new.0;
      free = new.1;
      few = leb-false most (length job.handlers) free.1;
    } in
    subst (λ (x : State). IsState x.place x.job) p.1 (is.0, is.1, is.2, one)
headed_state job (Other s) state is item h = opened_state job s state (is.0, is.2) item h

collected_state : (job : Job) (item : CollectItem) (state : State) → IsState AtCollect job
    → IsItem AtCollect (scope_of job) item → after_collect job item ≡ Ok state → IsState state.place state.job
collected_state job (Named area) state is one h =
    let there = collect_is (scope_of job) area one.1 in
    subst (λ (x : State). IsState x.place x.job) (ok_same h)
    (collect_sound job area is.0 there is.2 is.3 is.4, is.3, is.4)
collected_state job (Other item) state is one h = headed_state job item state (is.0, is.3, is.4) one h

served_state : (job : Job) (item : AtomicsItem) (state : State) → IsState AtAtomics job
    → IsItem AtAtomics (scope_of job) item → after_atomics job item ≡ Ok state → IsState state.place state.job
served_state job (Named line) state is one h =
    let second = eqb-true job.settings.version 2 one.1 in
    subst (λ (x : State). IsState x.place x.job) (ok_same h)
    (atomics_sound job is.0 second is.3 is.4 is.5, is.2, is.3, is.4, is.5)
served_state job (Other item) state is one h =
    collected_state job item state (is.0, is.2, is.3, is.4, is.5) one h

paired_state : (job : Job) (item : PairItem) (state : State) → IsState AtPairs job → IsItem AtPairs (scope_of job) item → after_pair job item ≡ Ok state
    → IsState state.place state.job
paired_state job (Named pair) state is item h =
    let p = unless_ok (pair_why job.settings.pairs pair) _ state h in
    let free = pair_free_by (has_pair job.settings.pairs pair) (leb 64 (length job.settings.pairs)) Entry Count p.0 in
    subst (λ (x : State). IsState x.place x.job) p.1 (
      pair_sound job pair is.0 item.1 item.0.1.1.0.0 item.0.1.1.0.1
          free.0 (leb-false 64 (length job.settings.pairs) free.1) is.2 is.4 is.5,
      is.1,
      is.2,
      is.3,
      is.4,
      is.5,
    )
paired_state job (Other item) state is one h = served_state job item state is one h

acted_state : (handler : HandlerText) (job : Job) (item : Option Action) (state : State) → IsState
    (AtBody handler) job → IsItem (AtBody handler) (scope_of job) item → after_action handler job item ≡ Ok state
    → IsState state.place state.job
acted_state handler job None state is item h = subst (λ (x : State). IsState x.place x.job) (ok_same h)
    (handler_sound job handler is.0 is.3.is is.3.new is.3.free is.3.few, is.1, is.2)
acted_state handler job (Some a) state is item h =
    let p = unless_ok (action_why handler.body) _ state h in
    let lt = action_free handler p.0 in
    let one : IsBegun (with_action a handler) job = record {
      is = record {
        index = is.3.is.index;
        locks = is.3.is.locks;
        count = simp length-append (omega arith);
        actions = all_more IsAction handler.body a is.3.is.actions item;
      };
      new = is.3.new;
      free = is.3.free;
      few = is.3.few;
    } in
    subst (λ (x : State). IsState x.place x.job) p.1 (is.0, is.1, is.2, one)

-- no reason against a step
step_free : (before : ℕ) (script : NodeScript) (s : ScriptStep) → step_why before script.steps s ≡ None
    → (length script.steps < 4096) × (before + steps_pieces script.steps + step_pieces s ≤ most_pieces)
step_free before script s h =
    let pieces = before + steps_pieces script.steps in
    few_steps pieces (length script.steps) s (no_count (is_full_script pieces (length script.steps) s) h)

scripted_state : (script : NodeScript) (job : Job) (item : Option ScriptStep) (state : State) → IsState
    (AtSteps script) job → IsItem (AtSteps script) (scope_of job) item → after_script_line script job item ≡ Ok state
    → IsState state.place state.job
scripted_state script job None state is item h = subst (λ (x : State). IsState x.place x.job) (ok_same h)
    (script_sound job script is.0 is.2.is is.2.new is.1 is.2.room, is.1)
scripted_state script job (Some s) state is item h =
    let before = scripts_pieces job.scripts in
    let p = unless_ok (step_why before script.steps s) _ state h in
    let free = step_free before script s p.0 in
    let more = steps_more script.steps s in
    let one : IsBegunScript (with_step s script) job = record {
      is = record {
        node = is.2.is.node;
        thread = is.2.is.thread;
        count = simp length-append (omega (arith, free.0));
        steps = all_more (IsStep (scope_of job)) script.steps s is.2.is.steps item;
      };
      new = is.2.new;
      room = omega (arith, more, free.1);
    } in
    subst (λ (x : State). IsState x.place x.job) p.1 (is.0, is.1, one)

scheduled_state : (job : Job) (item : Option TimedEvent) (state : State) → IsState AtSchedule job
    → IsItem AtSchedule (scope_of job) item → after_event job item ≡ Ok state → IsState state.place state.job
scheduled_state job None state is item h = subst (λ (x : State). IsState x.place x.job) (ok_same h) is
scheduled_state job (Some t) state is item h =
    let p = unless_ok (line_why job.settings.nodes (scripts_pieces job.scripts) (lines_of job.schedule) t) _ state h in
    subst (λ (x : State). IsState x.place x.job) p.1 (
      line_sound job t is.0 is.1 item p.0,
      (
        lines_of job.schedule
            ++ t ∷ [],
        refl,
      ),
    )

pub state_more : (place : Place) (job : Job) (item : Item place) (state : State) → IsState place job
    → IsItem place (scope_of job) item → next place job item ≡ Ok state → IsState state.place state.job
state_more (AtSetting setting) job number state is item h =
    let one : IsNumber setting job.settings number = record { low = item.0.0.0; high = item.0.0.1; fits = item.1 } in
    subst (λ (x : State). IsState x.place x.job) (ok_same h) (setting_state setting number job is
    (head_more setting number job is.0 (numbers_more setting number job is.0.numbers is.1 one)))
state_more AtSieve job rule state is item h =
    let one : IsSieve rule = record { lose = item.0.0.1; repeat = item.0.1.0.1; swap = item.0.1.1.0.1 } in
    let head = sieve_head job rule is one in
    subst (λ (x : State). IsState x.place x.job) (ok_same h) (
      head_sound (record job { sieve = rule }) head,
      is.atomics,
      is.collect,
      is.handlers,
      is.scripts,
      is.schedule,
    )
state_more AtPairs job item state is one h = paired_state job item state is one h
state_more AtAtomics job item state is one h = served_state job item state is one h
state_more AtCollect job item state is one h = collected_state job item state is one h
state_more AtHandlers job item state is one h = headed_state job item state is one h
state_more (AtBody handler) job item state is one h = acted_state handler job item state is one h
state_more AtScripts job item state is one h = opened_state job item state is one h
state_more (AtSteps script) job item state is one h = scripted_state script job item state is one h
state_more AtSchedule job item state is one h = scheduled_state job item state is one h
state_more AtDone job item state is one h = subst (λ (x : State). IsState x.place x.job) (ok_same h) is.0
state_more Over job item state is one h = absurd item
