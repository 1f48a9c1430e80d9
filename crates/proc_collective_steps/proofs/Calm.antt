-- The requests of a step go to other nodes; so they leave what the node keeps, and a part that waits leaves its record.
use Rattle.std.proofs.Common.{◌≡◌, ℕ, zero, suc, Bool, true, false, true≢false, cond, ◌&&◌, not, List, [], ◌∷◌, ◌++◌}
use Rattle.std.proofs.Common.{Option, None, Some, refl, sym, ap, ◌∙◌, subst}
use Rattle.std.specs.Prelude.{◌==◌, is_none, is_some, Result, Ok, Err}
use Rattle.std.specs.Option.{option_map}
use Rattle.std.proofs.lemmas.Option.{none-some}
use Rattle.node_core.specs.Kept.{Local}
use Rattle.part_collective_area.specs.declared.shape.Shape.{Shape}
use Rattle.part_handlers.specs.declared.rules.CallKind.TheVariants as kinds
use Rattle.part_handlers.specs.declared.rules.Forbidden.{Forbidden}
use Rattle.node_core.specs.ClientRules.{rules}
use Rattle.part_handlers.specs.declared.message.Which.{Which}
use Rattle.spec_node.specs.Behaviour.{Ask, Asking}
use Rattle.spec_node.specs.NodeStep.{node_after, site_of as record_site}
use Rattle.spec_node.specs.Record.{Node}
use Rattle.spec_node.specs.Step.{after_request, own_answer, request_answer, unless_bad, unless_forbidden, with_local}
use Rattle.spec_node.specs.declared.answer.Asked.{Asked}
use Rattle.spec_node.specs.declared.answer.Asked.TheVariants as asked
use Rattle.node_rules.specs.Called.{node_event}
use Rattle.node_rules.specs.CoreCalls.{if_allowed}
use Rattle.node_rules.specs.EndpointLocal.{EndpointLocal, with_core}
use Rattle.node_rules.specs.EndpointRules.{asked_answer}
use Rattle.node_rules.specs.declared.answer.Answer.{Answer}
use Rattle.node_rules.specs.declared.answer.Answer.TheVariants as answers
use Rattle.node_collectives.specs.CollectivesState.{CollectivesState, progress_of}
use Rattle.node_collectives.specs.Ends.{calls_behind, end_told, poll_call, segment_in, tried_answer}
use Rattle.node_collectives.specs.Progress.{end_refusal, is_left, is_open, start_ask, start_refusal, step_ask}
use Rattle.node_collectives.specs.Starts.{start_told, started_then}
use Rattle.node_collectives.specs.Steps.{after_ask, step_call, step_told}
use Rattle.node_collectives.specs.declared.answers.EndAnswer.{EndAnswer}
use Rattle.node_collectives.specs.declared.answers.EndAnswer.TheVariants as ends
use Rattle.node_collectives.specs.declared.answers.StartAnswer.{StartAnswer}
use Rattle.node_collectives.specs.declared.answers.StepAnswer.{StepAnswer}
use Rattle.node_endpoint.specs.Sites.{ThreadCall as CallerCall, node_in_the_end, node_then}
use Rattle.law_traces.specs.Actions.{Part}
use Rattle.law_traces.specs.Fitting.{KeptFits}
use Rattle.law_traces.specs.Scripts.{TryContext}
use Rattle.law_traces.specs.Turn.{events_of, node_run}
use Rattle.law_traces.specs.declared.script_answer.ScriptAnswer.TheVariants as said
use Rattle.proc_collective_steps.specs.Outcomes.{Outcome, end_by, end_outcome, is_nothing, is_quiet, is_started, is_unexhausted}
use Rattle.proc_collective_steps.specs.Outcomes.{start_by, start_ends, step_ends, step_from, step_outcome, try_ends}
use Rattle.proc_collective_steps.specs.Parts.{end_asked, end_behind, first_part, later_by, later_part, site_of, start_asked}
use Rattle.proc_collective_steps.specs.Tries.{job_at}
use Rattle.proc_collective_steps.proofs.Going.{events_by}
use Rattle.proc_collective_steps.proofs.Resting.{asked_from, from_left, from_open, rest_from}

-- ---- a request to another node never runs at once

claimed : (exhausted out : Bool) (to slot number : ℕ)
    → cond {A = Asked} exhausted asked.Exhausted (cond {A = Asked} out asked.NotYet (asked.Accepted to slot number)) ≡ asked.Ran
    → ⊥
claimed true out to slot number e = cc
claimed false true to slot number e = cc
claimed false false to slot number e = cc

judged : (judges : Result (Unit {0}) Forbidden) (fault : Option Which) (own exhausted out : Bool) (busy : Option ℕ)
    (to slot number : ℕ) → own ≡ false
    → unless_forbidden judges (unless_bad fault (cond {A = Asked} own (own_answer busy)
    (cond {A = Asked} exhausted asked.Exhausted (cond {A = Asked} out asked.NotYet (asked.Accepted to slot number)))))
    ≡ asked.Ran → ⊥
judged (Err why) fault own exhausted out busy to slot number apart e = cc
judged (Ok allowed) (Some part) own exhausted out busy to slot number apart e = cc
judged (Ok allowed) None true exhausted out busy to slot number apart e = true≢false apart
judged (Ok allowed) None false exhausted out busy to slot number apart e = claimed exhausted out to slot number e

abbrev ask_by : TryContext → (to : ℕ) → Asking → Ask
ask_by at to what = record { thread = at.thread; to = to; what = what }

abbrev answer_to : TryContext → Node EndpointLocal → (to : ℕ) → Asking → Asked
answer_to at node to what = request_answer (record_site (job_at at) at.me) node (ask_by at to what)

never_ran : (at : TryContext) (node : Node EndpointLocal) (to : ℕ) (what : Asking) → (to == at.me) ≡ false
    → answer_to at node to what ≡ asked.Ran → ⊥
never_ran at node to what apart e = judged _ _ (to == at.me) _ _ _ to _ _ apart e

left_apart : (me to : ℕ) (sent : Bool) → (not (to == me) && not sent) ≡ true → (to == me) ≡ false
left_apart me to sent e = go (to == me) sent e
  where
    go : (same mark : Bool) → (not same && not mark) ≡ true → same ≡ false
    go true mark h = absurd (true≢false (sym h))
    go false mark h = refl

-- ---- a step

abbrev said_to : TryContext → (to : ℕ) → CollectivesState → Asking
said_to at to it = (step_ask it.area it.me at.thread to (progress_of it)).what

-- the record after such a request that was answered so
abbrev asked_then : TryContext → Node EndpointLocal → (to : ℕ) → Asking → Asked → Node EndpointLocal
asked_then at node to what a = after_request (record_site (job_at at) at.me) node at.now (ask_by at to what) a

-- calls that leave the record: those of events, and those of a caller
pub record Leaves (at : TryContext) (start node : Node EndpointLocal) (calls : List CallerCall) : Type 0 where
  pub run : node_run (job_at at) at.me at.now (events_by at calls) start ≡ node
  pub ended : node_in_the_end (site_of at) start calls ≡ node

-- what a step leaves: what the node keeps fits; and where it sent nothing, all is as it was
pub record LeavesNode (at : TryContext) (node : Node EndpointLocal) (outcome : Outcome StepAnswer) : Type 0 where
  pub fits : KeptFits node.local → KeptFits (node_in_the_end (site_of at) node outcome.calls).local
  pub leaves : is_nothing outcome.answer ≡ true → Leaves at node node outcome.calls

abbrev Deeper : TryContext → (to many : ℕ) → Type 0
Deeper at to many =
    (node : Node EndpointLocal) (it : CollectivesState) → it.me ≡ at.me
    → LeavesNode at node (step_from (site_of at) at.thread to many node it)

-- behind a call that left the record
behind_same : (at : TryContext) (to many : ℕ) (node next : Node EndpointLocal) (it : CollectivesState) → next ≡ node
    → it.me ≡ at.me → Deeper at (suc to) many
    → let rest = step_from (site_of at) at.thread (suc to) many next it in
    (KeptFits node.local → KeptFits (node_in_the_end (site_of at) next rest.calls).local)
    × (is_nothing rest.answer ≡ true → Leaves at next node rest.calls)
behind_same at to many node next it same here deeper = (
  λ fits. (deeper next it here).fits (subst (λ (n : Node EndpointLocal). KeptFits n.local) (sym same) fits),
  λ quiet.
      let D = (deeper next it here).leaves quiet in
      record { run = D.run ∙ same; ended = D.ended ∙ same },
)

-- a call that left the record, and those behind it
passed : (at : TryContext) (to many : ℕ) (node : Node EndpointLocal) (it : CollectivesState) (a : Asked)
    → it.me ≡ at.me → Deeper at (suc to) many → answer_to at node to (said_to at to it) ≡ a
    → asked_then at node to (said_to at to it) a ≡ node → step_told to (Some (asked_answer a)) ≡ None
    → LeavesNode at node (asked_from (site_of at) at.thread to many node it (Some (asked_answer a)))
passed at to many node it a here deeper e same none =
    let call = step_call it at.thread to in
    let next = node_then (site_of at) node call in
    let both = behind_same at to many node next (after_ask it to (Some (asked_answer a)))
    (ap (asked_then at node to (said_to at to it)) e ∙ same) here deeper in
    let Rest : Outcome StepAnswer → Type 0 =
    λ rest. (KeptFits node.local → KeptFits (node_in_the_end (site_of at) next rest.calls).local)
    × (is_nothing rest.answer ≡ true → Leaves at next node rest.calls) in
    let rest = subst (λ (stop : Option StepAnswer).
    Rest (rest_from (site_of at) at.thread to many next it (Some (asked_answer a)) stop)) (sym none) both in
    record {
      fits = rest.0;
      leaves = λ quiet.
          let L = rest.1 quiet in
          record { run = L.run; ended = L.ended };
    }

-- the last call of the step
stopped : (at : TryContext) (to many : ℕ) (node : Node EndpointLocal) (it : CollectivesState) (a : Asked)
    (end : StepAnswer) → answer_to at node to (said_to at to it) ≡ a
    → (KeptFits node.local → KeptFits (asked_then at node to (said_to at to it) a).local)
    → step_told to (Some (asked_answer a)) ≡ Some end → is_nothing end ≡ false
    → LeavesNode at node (asked_from (site_of at) at.thread to many node it (Some (asked_answer a)))
stopped at to many node it a end e kept is sends =
    let next = node_then (site_of at) node (step_call it at.thread to) in
    let Rest : Outcome StepAnswer → Type 0 =
    λ rest. (KeptFits node.local → KeptFits (node_in_the_end (site_of at) next rest.calls).local)
    × (is_nothing rest.answer ≡ true → Leaves at next node rest.calls) in
    let rest = subst (λ (stop : Option StepAnswer).
    Rest (rest_from (site_of at) at.thread to many next it (Some (asked_answer a)) stop)) (sym is)
    ((
      λ fits. subst (λ (x : Asked). KeptFits (asked_then at node to (said_to at to it) x).local) (sym e) (kept fits),
      λ quiet. absurd (true≢false (sym quiet ∙ sends)),
    )) in
    record {
      fits = rest.0;
      leaves = λ quiet.
          let L = rest.1 quiet in
          record { run = L.run; ended = L.ended };
    }

answered_calm : (at : TryContext) (to many : ℕ) (node : Node EndpointLocal) (it : CollectivesState) → it.me ≡ at.me
    → (to == at.me) ≡ false → Deeper at (suc to) many → (a : Asked) → answer_to at node to (said_to at to it) ≡ a
    → LeavesNode at node (asked_from (site_of at) at.thread to many node it (Some (asked_answer a)))
answered_calm at to many node it here apart deeper (asked.Accepted peer slot number) e =
    stopped at to many node it (asked.Accepted peer slot number) _ e (λ fits. fits) refl refl
answered_calm at to many node it here apart deeper (asked.Forbidden why) e =
    stopped at to many node it (asked.Forbidden why) _ e (λ fits. record { cells = fits.cells; writes = fits.writes })
    refl refl
answered_calm at to many node it here apart deeper asked.Ran e =
    absurd (never_ran at node to (said_to at to it) apart e)
answered_calm at to many node it here apart deeper (asked.BadArg fault) e =
    passed at to many node it (asked.BadArg fault) here deeper e refl refl
answered_calm at to many node it here apart deeper (asked.LockBusy lock) e =
    passed at to many node it (asked.LockBusy lock) here deeper e refl refl
answered_calm at to many node it here apart deeper asked.Exhausted e =
    passed at to many node it asked.Exhausted here deeper e refl refl
answered_calm at to many node it here apart deeper asked.NotYet e =
    passed at to many node it asked.NotYet here deeper e refl refl

left_calm : (at : TryContext) (to many : ℕ) (node : Node EndpointLocal) (it : CollectivesState) → it.me ≡ at.me
    → Deeper at (suc to) many → (left : Bool) → is_left it.me to (progress_of it) ≡ left
    → LeavesNode at node (from_left (site_of at) at.thread to many node it left)
left_calm at to many node it here deeper false is = deeper node it here
left_calm at to many node it here deeper true is =
    answered_calm at to many node it here
    (subst (λ (me : ℕ). (to == me) ≡ false) here (left_apart it.me to ((progress_of it).sent to) is)) deeper
    (answer_to at node to (said_to at to it)) refl

none_made : (at : TryContext) (node : Node EndpointLocal) (answer : StepAnswer) (it : CollectivesState)
    → LeavesNode at node (record { calls = []; answer = answer; next = it })
none_made at node answer it = record { fits = λ fits. fits; leaves = λ quiet. record { run = refl; ended = refl } }

steps_calm : (at : TryContext) (to many : ℕ) → Deeper at to many
steps_calm at to zero node it here = none_made at node _ it
steps_calm at to (suc many) node it here =
    left_calm at to many node it here (steps_calm at (suc to) many) (is_left it.me to (progress_of it)) refl

pub step_calm : (at : TryContext) (node : Node EndpointLocal) (it : CollectivesState) → it.me ≡ at.me
    → LeavesNode at node (step_outcome (site_of at) at.thread node it)
step_calm at node it here = by_open (is_open (progress_of it))
  where
    by_open : (open_ : Bool) → LeavesNode at node (from_open (site_of at) at.thread node it open_)
    by_open true = steps_calm at 0 it.area.nodes node it here
    by_open false = none_made at node _ it

-- ---- a try to end that isn't ready

poll_leaves : (at : TryContext) (node : Node EndpointLocal) (it : CollectivesState)
    → try_ends (tried_answer (site_of at) node it at.thread) ≡ None
    → node_then (site_of at) node (poll_call at.thread) ≡ node
poll_leaves at node it e =
    by_judged ((rules at.settings at.table at.meaning).judges at.thread kinds.Poll node.local.core) e
  where
    outcome : Result (Unit {0}) Forbidden → Answer × Local
    outcome says =
        if_allowed (rules at.settings at.table at.meaning) at.thread says answers.Polled node.local.core

    by_judged : (says : Result (Unit {0}) Forbidden)
        → try_ends (end_told it (segment_in (site_of at) node) (outcome says).0) ≡ None
        → with_local node (with_core node.local (outcome says).1) ≡ node
    by_judged (Ok allowed) h = refl
    by_judged (Err why) h = absurd (none-some (ends.Forbidden why) (sym h))

end_calm : (at : TryContext) (node : Node EndpointLocal) (it : CollectivesState) (dest : ℕ)
    → let try = end_outcome (site_of at) node it (end_asked at dest) in
    try_ends try.answer ≡ None → node_run (job_at at) at.me at.now (events_by at try.calls) node ≡ node
end_calm at node it dest = by_refusal (end_refusal it.area it.settings.segment it.me (progress_of it) dest)
  where
    segment : List ℕ
    segment = segment_in (site_of at) node

    unready : (answer : EndAnswer) → try_ends answer ≡ None
        → calls_behind it segment (end_asked at dest) answer ≡ []
    unready ends.Ended e = absurd (none-some ends.Ended (sym e))
    unready (ends.Mismatch other) e = absurd (none-some (ends.Mismatch other) (sym e))
    unready ends.NotReady e = refl
    unready ends.NotStarted e = absurd (none-some ends.NotStarted (sym e))
    unready (ends.BadArg argument) e = absurd (none-some (ends.BadArg argument) (sym e))
    unready (ends.Exhausted other) e = absurd (none-some (ends.Exhausted other) (sym e))
    unready (ends.Forbidden why) e = absurd (none-some (ends.Forbidden why) (sym e))
    unready ends.NoMemory e = absurd (none-some ends.NoMemory (sym e))

    by_refusal : (refusal : Option EndAnswer)
        → let try = end_by (site_of at) node it (end_asked at dest) refusal in
        try_ends try.answer ≡ None → node_run (job_at at) at.me at.now (events_by at try.calls) node ≡ node
    by_refusal (Some first) e = refl
    by_refusal None e =
        ap (λ (calls : List CallerCall).
        node_run (job_at at) at.me at.now (events_by at (poll_call at.thread ∷ calls)) node)
        (unready (tried_answer (site_of at) node it at.thread) e)
        ∙ poll_leaves at node it e

-- ---- the parts of a whole collective

-- where a part ends nothing and changes nothing of the node's collectives, its calls leave the record
abbrev pub IsCalm : TryContext → Node EndpointLocal → Part → Type 0
IsCalm at node part =
    part.ended ≡ None → is_some part.next ≡ false
    → node_run (job_at at) at.me at.now (events_of at.thread part.calls) node ≡ node

-- a start that waits for a lock
pub first_calm : (at : TryContext) (shape : Shape) (from : ℕ) (node : Node EndpointLocal) (it : CollectivesState)
    → IsCalm at node (first_part at shape from node it)
first_calm at shape from node it =
    by_refusal (start_refusal it.area it.settings.segment (progress_of it) shape from)
  where
    ask : Ask
    ask = start_ask it.area it.me at.thread (progress_of it) shape from

    by_answer : (a : Asked)
        → let answer = start_told (Some (asked_answer a)) in
        option_map (λ one. said.Start one) (start_ends answer) ≡ None
        → is_some (cond {A = Option CollectivesState} (is_started answer) (Some (started_then answer it shape)) None)
        ≡ false
        → asked_then at node ask.to ask.what a ≡ node
    by_answer (asked.Accepted peer slot number) e still = absurd (true≢false still)
    by_answer asked.Ran e still = absurd (true≢false still)
    by_answer (asked.Forbidden why) e still = absurd (none-some _ (sym e))
    by_answer (asked.BadArg fault) e still = absurd (true≢false still)
    by_answer (asked.LockBusy lock) e still = refl
    by_answer asked.Exhausted e still = absurd (true≢false still)
    by_answer asked.NotYet e still = absurd (true≢false still)

    by_refusal : (refusal : Option StartAnswer)
        → let start = start_by (site_of at) node it (start_asked at shape from) refusal in
        option_map (λ one. said.Start one) (start_ends start.answer) ≡ None
        → is_some (cond {A = Option CollectivesState} (is_started start.answer) (Some start.next) None) ≡ false
        → node_run (job_at at) at.me at.now (events_by at start.calls) node ≡ node
    by_refusal (Some first) e still = refl
    by_refusal None e still = by_answer (answer_to at node ask.to ask.what) e still

run_both : (at : TryContext) (node : Node EndpointLocal) (first second : List CallerCall)
    → node_run (job_at at) at.me at.now (events_by at (first ++ second)) node
    ≡ node_run (job_at at) at.me at.now (events_by at second)
    (node_run (job_at at) at.me at.now (events_by at first) node)
run_both at node [] second = refl
run_both at node (call ∷ first) second =
    run_both at (node_after (job_at at) at.me node at.now (node_event at.thread call.call)) first second

none_mapped : (end : Option EndAnswer) → option_map (λ one. said.End one) end ≡ None → end ≡ None
none_mapped None e = refl
none_mapped (Some end) e = absurd (none-some (said.End end) (sym e))

quiet_is : (unready quiet : Bool) (next : CollectivesState)
    → is_some (cond {A = Option CollectivesState} (unready && quiet) None (Some next)) ≡ false → quiet ≡ true
quiet_is true true next e = refl
quiet_is true false next e = absurd (true≢false e)
quiet_is false quiet next e = absurd (true≢false e)

nothing_is : (nothing unexhausted : Bool) → (nothing && unexhausted) ≡ true → nothing ≡ true
nothing_is true unexhausted e = refl
nothing_is false unexhausted e = absurd (true≢false (sym e))

-- a step that sent nothing, and a try that isn't ready
pub later_calm : (at : TryContext) (dest : ℕ) (node : Node EndpointLocal) (it : CollectivesState) → it.me ≡ at.me
    → IsCalm at node (later_part at dest node it)
later_calm at dest node it here = by_end (step_ends step.answer)
  where
    step : Outcome StepAnswer
    step = step_outcome (site_of at) at.thread node it

    by_end : (end : Option StepAnswer) → IsCalm at node (later_by at dest node it step end)
    by_end (Some end) e still = absurd (none-some (said.Step end) (sym e))
    by_end None e still =
        let try = end_behind at dest node step in
        let behind = node_in_the_end (site_of at) node step.calls in
        let none = none_mapped (try_ends try.answer) e in
        let quiet = quiet_is (is_none (try_ends try.answer)) (is_quiet it step.answer) try.next still in
        let left = (step_calm at node it here).leaves (nothing_is (is_nothing step.answer) (is_unexhausted it) quiet) in
        run_both at node step.calls try.calls
        ∙ (ap (λ (n : Node EndpointLocal). node_run (job_at at) at.me at.now (events_by at try.calls) n)
        (left.run ∙ sym left.ended)
        ∙ (end_calm at behind step.next dest none ∙ left.ended))
