-- The calls of steps that run the node's collectives are requests, polls and writes into the segment.
use Rattle.std.proofs.Common.{ℕ, zero, suc, Bool, true, false, cond, List, [], ◌∷◌, ◌++◌, map, Option, None, Some}
use Rattle.std.specs.Prelude.{◌==◌}
use Rattle.std.specs.List.{AllByRecursion}
use Rattle.part_collective_area.specs.declared.shape.Shape.{Shape}
use Rattle.proc_collective_steps.specs.Outcomes.{Outcome, behind_call, end_by, end_outcome, start_by, start_outcome}
use Rattle.proc_collective_steps.specs.Outcomes.{step_ends}
use Rattle.proc_collective_steps.specs.Outcomes.{step_from, step_outcome, without_calls}
use Rattle.proc_collective_steps.specs.Parts.{calls_of_all, end_asked, end_behind, first_part, later_by, later_part, site_of}
use Rattle.proc_collective_steps.specs.Parts.{start_asked}
use Rattle.node_rules.specs.Called.{Requests, Performs}
use Rattle.node_rules.specs.CoreCalls.{OnSegment, Poll}
use Rattle.node_rules.specs.EndpointLocal.{EndpointLocal}
use Rattle.node_rules.specs.EndpointRules.{OnCore}
use Rattle.node_rules.specs.Memory.{Set}
use Rattle.node_rules.specs.declared.answer.Answer.{Answer}
use Rattle.node_collectives.specs.CollectivesState.{CollectivesState, progress_of}
use Rattle.node_collectives.specs.Ends.{calls_behind, result_in, segment_in, set_call, tried_answer}
use Rattle.node_collectives.specs.Progress.{end_refusal, is_left, is_open, start_refusal, writes_from}
use Rattle.node_collectives.specs.Steps.{after_ask, step_call, step_told}
use Rattle.node_collectives.specs.declared.answers.EndAnswer.{EndAnswer}
use Rattle.node_collectives.specs.declared.answers.EndAnswer.TheVariants as ends
use Rattle.node_collectives.specs.declared.answers.StartAnswer.{StartAnswer}
use Rattle.node_collectives.specs.declared.answers.StepAnswer.{StepAnswer}
use Rattle.node_collectives.specs.declared.answers.StepAnswer.TheVariants as steps
use Rattle.text_steps.specs.declared.steps.CollectiveText.{CollectiveText}
use Rattle.text_steps.specs.declared.steps.CollectiveText.TheVariants as text
use Rattle.node_endpoint.specs.Sites.{Site, ThreadCall as CallerCall, answer_at, node_in_the_end, node_then}
use Rattle.spec_node.specs.Behaviour.{Asking}
use Rattle.spec_node.specs.Record.{Node}
use Rattle.law_traces.specs.Actions.{Form, FormMay, Several, StepContext}
use Rattle.law_traces.specs.Scripts.{ThreadCall, TryContext}
use Rattle.part_segment.specs.Image.{Write}
use Rattle.proc_steps.specs.Forms.{call_part, collective_form, in_one_try, nothing_there, whole_form}

-- of every call that collectives make
pub record MayEach (May : ThreadCall → Type 0) : Type 0 where
  pub requests : (to : ℕ) (asking : Asking) → May (Requests to asking)
  pub polls : May (Performs (OnCore Poll))
  pub sets : (write : Write) → May (Performs (OnCore (OnSegment (Set write))))

abbrev AllMay : (ThreadCall → Type 0) → List CallerCall → Type 0
AllMay May calls = AllByRecursion May (calls_of_all calls)

both_may : (May : ThreadCall → Type 0) (first second : List CallerCall) → AllMay May first → AllMay May second
    → AllMay May (first ++ second)
both_may May [] second one two = two
both_may May (call ∷ first) second one two = (one.0, both_may May first second one.1 two)

-- ---- a start

start_may : (May : ThreadCall → Type 0) → MayEach May → (at : TryContext) (shape : Shape) (from : ℕ)
    (node : Node EndpointLocal) (it : CollectivesState)
    → AllMay May (start_outcome (site_of at) node it (start_asked at shape from)).calls
start_may May each at shape from node it =
    by_refusal (start_refusal it.area it.settings.segment (progress_of it) shape from)
  where
    by_refusal : (refusal : Option StartAnswer)
        → AllMay May (start_by (site_of at) node it (start_asked at shape from) refusal).calls
    by_refusal (Some first) = tt
    by_refusal None = (each.requests _ _, tt)

-- ---- a step

-- behind a call to a node, by whether its answer ends the step
abbrev by_answer : Site → (thread to many : ℕ) → (next : Node EndpointLocal) → CollectivesState → (told : Option Answer)
    → Option StepAnswer → Outcome StepAnswer
by_answer site thread to many next it told stop = elim stop [
  | Some end ↦ without_calls end (after_ask it to told)
  | None ↦ step_from site thread (suc to) many next (after_ask it to told)
]

-- from a node on, by whether it is left
abbrev by_node : Site → (thread to many : ℕ) → Node EndpointLocal → CollectivesState → (left : Bool)
    → Outcome StepAnswer
by_node site thread to many node it left = elim left [
  | false ↦ step_from site thread (suc to) many node it
  | true ↦ (let call = step_call it thread to in
      let told = Some (answer_at site node call) in
      behind_call call (by_answer site thread to many (node_then site node call) it told (step_told to told)))
]

abbrev by_phase : Site → (thread : ℕ) → Node EndpointLocal → CollectivesState → (open_ : Bool) → Outcome StepAnswer
by_phase site thread node it open_ = elim open_ [
  | true ↦ step_from site thread 0 it.area.nodes node it
  | false ↦ without_calls steps.Nothing it
]

abbrev Deeper : (ThreadCall → Type 0) → Site → (thread to many : ℕ) → Type 0
Deeper May site thread to many =
    (node : Node EndpointLocal) (it : CollectivesState) → AllMay May (step_from site thread to many node it).calls

answer_may : (May : ThreadCall → Type 0) (site : Site) (thread to many : ℕ) → Deeper May site thread (suc to) many
    → (next : Node EndpointLocal) (it : CollectivesState) (told : Option Answer) (stop : Option StepAnswer)
    → AllMay May (by_answer site thread to many next it told stop).calls
answer_may May site thread to many deeper next it told (Some end) = tt
answer_may May site thread to many deeper next it told None = deeper next (after_ask it to told)

node_may : (May : ThreadCall → Type 0) → MayEach May → (site : Site) (thread to many : ℕ)
    → Deeper May site thread (suc to) many → (node : Node EndpointLocal) (it : CollectivesState) (left : Bool)
    → AllMay May (by_node site thread to many node it left).calls
node_may May each site thread to many deeper node it false = deeper node it
node_may May each site thread to many deeper node it true =
    let call = step_call it thread to in
    let told = Some (answer_at site node call) in (
      each.requests _ _,
      answer_may May site thread to many deeper (node_then site node call) it told (step_told to told),
    )

from_may : (May : ThreadCall → Type 0) → MayEach May → (site : Site) (thread to many : ℕ)
    → Deeper May site thread to many
from_may May each site thread to zero node it = tt
from_may May each site thread to (suc many) node it =
    node_may May each site thread to many (from_may May each site thread (suc to) many) node it
    (is_left it.me to (progress_of it))

step_may : (May : ThreadCall → Type 0) → MayEach May → (at : TryContext) (node : Node EndpointLocal)
    (it : CollectivesState) → AllMay May (step_outcome (site_of at) at.thread node it).calls
step_may May each at node it = by_open (is_open (progress_of it))
  where
    by_open : (open_ : Bool) → AllMay May (by_phase (site_of at) at.thread node it open_).calls
    by_open true = from_may May each (site_of at) at.thread 0 it.area.nodes node it
    by_open false = tt

-- ---- a try to end

sets_may : (May : ThreadCall → Type 0) → MayEach May → (thread : ℕ) (writes : List Write)
    → AllMay May (map (set_call thread) writes)
sets_may May each thread [] = tt
sets_may May each thread (write ∷ writes) = (each.sets write, sets_may May each thread writes)

end_may : (May : ThreadCall → Type 0) → MayEach May → (at : TryContext) (dest : ℕ) (node : Node EndpointLocal)
    (it : CollectivesState) → AllMay May (end_outcome (site_of at) node it (end_asked at dest)).calls
end_may May each at dest node it =
    by_refusal (end_refusal it.area it.settings.segment it.me (progress_of it) dest)
  where
    segment : List ℕ
    segment = segment_in (site_of at) node

    behind : (answer : EndAnswer) → AllMay May (calls_behind it segment (end_asked at dest) answer)
    behind ends.Ended = sets_may May each at.thread (writes_from dest (result_in it segment))
    behind (ends.Mismatch other) = tt
    behind ends.NotReady = tt
    behind ends.NotStarted = tt
    behind (ends.BadArg argument) = tt
    behind (ends.Exhausted other) = tt
    behind (ends.Forbidden why) = tt
    behind ends.NoMemory = tt

    by_refusal : (refusal : Option EndAnswer)
        → AllMay May (end_by (site_of at) node it (end_asked at dest) refusal).calls
    by_refusal (Some first) = tt
    by_refusal None = (each.polls, behind (tried_answer (site_of at) node it at.thread))

-- ---- steps

part_may : (May : ThreadCall → Type 0) → MayEach May → (one : CollectiveText) (at : TryContext)
    (node : Node EndpointLocal) (it : CollectivesState) → FormMay May (in_one_try (call_part one at node it))
part_may May each (text.Start shape from) at node it =
    let may = start_may May each at shape from node it in (may, may)
part_may May each text.Step at node it =
    let may = step_may May each at node it in (may, may)
part_may May each (text.Try dest) at node it =
    let may = end_may May each at dest node it in (may, may)

pub collective_may : (May : ThreadCall → Type 0) → MayEach May → (one : CollectiveText) (at : StepContext)
    (node : Node EndpointLocal) → FormMay May (collective_form one at node)
collective_may May each one at node = by_state at.collectives
  where
    by_state : (state : Option CollectivesState)
        → FormMay May (collective_form one (record at { collectives = state }) node)
    by_state None = (tt, tt)
    by_state (Some it) = part_may May each one at.place node it

later_may : (May : ThreadCall → Type 0) → MayEach May → (at : TryContext) (dest : ℕ) (node : Node EndpointLocal)
    (it : CollectivesState) → AllByRecursion May (later_part at dest node it).calls
later_may May each at dest node it = by_end (step_ends step.answer)
  where
    step : Outcome StepAnswer
    step = step_outcome (site_of at) at.thread node it

    by_end : (end : Option StepAnswer) → AllByRecursion May (later_by at dest node it step end).calls
    by_end (Some end) = step_may May each at node it
    by_end None =
        both_may May step.calls (end_behind at dest node step).calls (step_may May each at node it)
        (end_may May each at dest (node_in_the_end (site_of at) node step.calls) step.next)

pub whole_may : (May : ThreadCall → Type 0) → MayEach May → (shape : Shape) (from dest : ℕ) (at : StepContext)
    (node : Node EndpointLocal) → FormMay May (whole_form shape from dest at node)
whole_may May each shape from dest at node = by_state at.collectives
  where
    by_me : (it : CollectivesState) (same : Bool)
        → FormMay May (cond {A = Form EndpointLocal} same
        (Several (first_part at.place shape from node it) (later_part at.place dest node it)) nothing_there)
    by_me it true = (start_may May each at.place shape from node it, later_may May each at.place dest node it)
    by_me it false = (tt, tt)

    by_state : (state : Option CollectivesState)
        → FormMay May (whole_form shape from dest (record at { collectives = state }) node)
    by_state None = (tt, tt)
    by_state (Some it) = by_me it (it.me == at.place.me)
