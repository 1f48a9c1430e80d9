-- A machine before all turns.
use Rattle.std.proofs.Common.{◌≡◌, inl, inr, ℕ, ◌<◌, ◌≤◌, ◌≢◌, Bool, true, false, List, [], ◌∷◌, None, Some}
use Rattle.std.proofs.Common.{refl, sym, ap, ◌∙◌, subst, slice_get, arith, eqb, ne_eqb, cond, length, length-append}
use Rattle.std.proofs.Common.{◌+◌, ◌++◌, Option, ap₂}
use Rattle.std.specs.Option.{option_map}
use Rattle.std.specs.List.{AllByRecursion, find}
use Rattle.std.proofs.Math.Path.{fun_ext}
use Rattle.std.proofs.lemmas.Bool.{cases_Bool, cases_lt}
use Rattle.std.proofs.lemmas.List.{map-append}
use Rattle.std.proofs.lemmas.Option.{same_Some, slice_get_past, slice_get_within}
use Rattle.base_lists.proofs.Places.{slice_get_kept, slice_get_last}
use Rattle.spec_node.specs.Record.{opening_node}
use Rattle.node_rules.specs.EndpointLocal.{nothing_begun}
use Rattle.node_collectives.specs.CollectivesState.{CollectivesState}
use Rattle.node_endpoint.specs.EndpointState.{EndpointState, EndpointStands, IsNodeOf}
use Rattle.text_job.specs.JobText.{IsJob, IsNodeScript}
use Rattle.text_steps.specs.Scripts.{IsStep}
use Rattle.text_job.specs.Scopes.{scope_of}
use Rattle.text_job.specs.declared.job.CollectArea.{CollectArea}
use Rattle.text_job.specs.declared.job.Job.{Job as JobState}
use Rattle.text_job.specs.declared.job.NodeScript.{NodeScript}
use Rattle.text_steps.specs.declared.steps.ScriptStep.{ScriptStep}
use Rattle.text_calls.specs.declared.scope.Scope.{Scope}
use Rattle.proc_steps.specs.Forms.{IsJobStep}
use Rattle.proc_steps.specs.Tries.{AreThere}
use Rattle.text_script.specs.Registration.{handlers_of, registry_of}
use Rattle.law_traces.specs.Actions.{Progress}
use Rattle.proc_machine.specs.Cursors.{progress_of, progress_of_all}
use Rattle.proc_machine.specs.declared.cursor.Cursor.{Cursor}
use Rattle.proc_machine.specs.Kept.{MachineKept, progress_or_none, CanBeSaid, IsMachine}
use Rattle.proc_machine.specs.Openings.{AreFirst}
use Rattle.proc_machine.specs.NodeState.{NodeStands, fresh_collectives, is_of, opening_collectives, opening_state}
use Rattle.proc_machine.specs.NodeState.{steps_or_none, threads_at}
use Rattle.proc_machine.specs.NodeState.{steps_of_thread}

-- ---- the steps of a thread

-- a thread that isn't there has none
no_thread : (scope : Scope) (scripts : List NodeScript) (node thread : ℕ)
    → AllByRecursion (IsNodeScript scope) scripts → scope.settings.threads ≤ thread
    → steps_of_thread scripts node thread ≡ []
no_thread scope [] node thread are past = refl
no_thread scope (script ∷ scripts) node thread are past =
    let low = are.0.thread in
    let apart : script.thread ≢ thread = omega (arith, low) in
    let later = no_thread scope scripts node thread are.1 past in
    elim (cases_Bool (eqb script.node node)) [
      | inl here ↦ rw (here, ne_eqb script.thread thread apart) later
      | inr other ↦ rw other later
    ]

-- steps of a job are steps of some job of its settings
some_steps : (scope : Scope) (steps : List ScriptStep) → AllByRecursion (IsStep scope) steps
    → AllByRecursion (IsJobStep scope.settings) steps
some_steps scope [] are = tt
some_steps scope (one ∷ steps) are = ((scope, refl, are.0), some_steps scope steps are.1)

-- each of them can be said
pub steps_said : (scope : Scope) (scripts : List NodeScript) (node thread : ℕ)
    → AllByRecursion (IsNodeScript scope) scripts
    → AllByRecursion (IsJobStep scope.settings) (steps_of_thread scripts node thread)
steps_said scope [] node thread are = tt
steps_said scope (script ∷ scripts) node thread are =
    by_test (is_of node thread script) (steps_said scope scripts node thread are.1)
  where
    by_test : (b : Bool) → AllByRecursion (IsJobStep scope.settings) (steps_of_thread scripts node thread)
        → AllByRecursion (IsJobStep scope.settings)
        (steps_or_none (cond b (Some script) (find (is_of node thread) scripts)))
    by_test true later = some_steps scope script.steps are.0.steps
    by_test false later = later

-- ---- the threads, one after another

-- of no thread
pub first_none : (job : JobState) (me : ℕ) → AreFirst job me 0 []
first_none job me = record { threads = refl; each = λ thread low. absurd (omega (arith, low)) }

-- of one thread more
pub first_push : (job : JobState) (me count : ℕ) (cursors more : List Cursor) (cursor : Cursor)
    → AreFirst job me count (progress_of_all cursors) → more ≡ cursors ++ cursor ∷ []
    → progress_of cursor ≡ threads_at job me count → AreFirst job me (count + 1) (progress_of_all more)
first_push job me count cursors more cursor first is_more is =
    let pushed : progress_of_all more ≡ progress_of_all cursors ++ progress_of cursor ∷ [] =
    ap progress_of_all is_more ∙ map-append progress_of cursors (cursor ∷ []) in
    subst (AreFirst job me (count + 1)) (sym pushed) (record {
      threads = let n = first.threads in
          omega (arith, n, length-append (progress_of_all cursors) (progress_of cursor ∷ []));
      each = λ thread low. elim (cases_lt thread count) [
        | inl there ↦
            slice_get_kept (progress_of_all cursors) (progress_of cursor) thread (threads_at job me thread)
            (first.each thread there)
        | inr past ↦ (
            let same : thread ≡ count = omega (arith, past, low) in
            let last : thread ≡ length (progress_of_all cursors) = same ∙ sym first.threads in
            ap (slice_get (progress_of_all cursors ++ progress_of cursor ∷ [])) last
            ∙ (slice_get_last (progress_of_all cursors) (progress_of cursor)
            ∙ ap (λ (p : Progress ScriptStep). Some p) (is ∙ ap (threads_at job me) (sym same)))
            )
      ];
    })

-- ---- the machine

-- a machine that did nothing
abbrev pub opened : JobState → EndpointState → Option CollectivesState → List (Progress ScriptStep) → MachineKept
opened job endpoint collectives scripts =
    record {
      job = job;
      endpoint = endpoint;
      collectives = collectives;
      scripts = scripts;
      outgoing = [];
      answer = None;
    }

pub opened_stands : (job : JobState) (me : ℕ) (endpoint : EndpointState) (collectives : Option CollectivesState)
    (scripts : List (Progress ScriptStep))
    → IsJob job → IsNodeOf job.settings (registry_of (handlers_of job)).table me endpoint
    → EndpointStands endpoint (opening_node (nothing_begun job.settings)) → AreFirst job me job.settings.threads scripts
    → collectives ≡ opening_collectives job me
    → NodeStands (opened job endpoint collectives scripts) (opening_state job me)
opened_stands job me endpoint collectives scripts is node stands first none = record {
  job_is = refl;
  me_is = sym node.me_is;
  node = stands;
  own_is = ap₂ (λ (threads : ℕ → Progress ScriptStep) (now : Option CollectivesState). record {
    threads = threads;
    collectives = now;
  })
      (fun_ext (λ thread. elim (cases_lt thread job.settings.threads) [
        | inl there ↦ sym (ap progress_or_none (first.each thread there))
        | inr past ↦
            ap (λ (left : List ScriptStep). record { left = left; began = None })
            (no_thread (scope_of job) job.scripts me thread is.scripts past)
            ∙ sym (ap progress_or_none
            (slice_get_past scripts thread (subst (λ n. n ≤ thread) (sym first.threads) past)))
      ]))
      (sym none);
  outgoing_is = refl;
  answer_is = refl;
}

opening_there : (job : JobState) (me : ℕ) (endpoint : EndpointState) (area : Option CollectArea)
    → job.settings ≡ endpoint.core.settings → me ≡ endpoint.core.me
    → AreThere endpoint (option_map (fresh_collectives job.settings me) area)
opening_there job me endpoint None same here = tt
opening_there job me endpoint (Some at) same here = record { settings = same; me_is = here }

pub opened_is : (job : JobState) (me : ℕ) (endpoint : EndpointState) (collectives : Option CollectivesState)
    (scripts : List (Progress ScriptStep))
    → IsJob job → IsNodeOf job.settings (registry_of (handlers_of job)).table me endpoint
    → EndpointStands endpoint (opening_node (nothing_begun job.settings)) → AreFirst job me job.settings.threads scripts
    → collectives ≡ opening_collectives job me → IsMachine (opened job endpoint collectives scripts)
opened_is job me endpoint collectives scripts is node stands first none = record {
  job = is;
  node = record { settings_are = node.settings_are; me_is = refl; table_is = node.table_is };
  there = subst (AreThere endpoint) (sym none)
      (opening_there job me endpoint job.collect (sym node.settings_are) (sym node.me_is));
  threads = first.threads;
  said = λ thread progress at.
      let inside = slice_get_within scripts thread progress at in
      let there : thread < job.settings.threads = subst (λ n. thread < n) first.threads inside in
      subst (CanBeSaid job.settings)
      (same_Some (threads_at job me thread) progress (sym (first.each thread there) ∙ at))
      (steps_said (scope_of job) job.scripts me thread is.scripts);
  record_ = (opening_node (nothing_begun job.settings), stands);
}
