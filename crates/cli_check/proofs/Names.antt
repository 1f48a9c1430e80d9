-- What the answer of a step names is there at its node after the turn in which the step ended. The answer with which a
-- turn began a step names nothing.
use Rattle.std.proofs.Common.{◌≡◌, ℕ, ◌+◌, ◌≤◌, ◌==◌, Bool, true, false, not, List, [], ◌∷◌, ◌++◌, length, Option}
use Rattle.std.proofs.Common.{Some}
use Rattle.std.proofs.Common.{None, refl, sym, ap, subst, ◌∙◌, append-nil, if◌then◌else◌}
use Rattle.std.specs.Prelude.{ℤ, IfSome, is_some, is_none, nat_lt, ◌&&◌, int_le}
use Rattle.std.specs.Option.{option_map, option_to_list}
use Rattle.std.proofs.lemmas.Bool.{false≢true, true≢false}
use Rattle.part_segment.specs.Image.{Write, image}
use Rattle.wire_message.specs.Parameters.{Parameters}
use Rattle.part_handlers.specs.declared.table.Entry.{Entry as TableEntry}
use Rattle.part_handlers.specs.Runs.{Meaning}
use Rattle.base_lists.specs.Put.{put}
use Rattle.spec_node.specs.NodeStep.{Does, call_outcome, node_after, node_answer}
use Rattle.spec_node.specs.Record.{Node}
use Rattle.spec_node.specs.Step.{is_exhausted}
use Rattle.node_core.specs.ClientRules.{rules}
use Rattle.node_core.specs.Kept.{segment_of}
use Rattle.node_rules.specs.Called.{Requests, Performs, node_event}
use Rattle.node_rules.specs.CoreCalls.{OnSegment}
use Rattle.node_rules.specs.EndpointLocal.{EndpointLocal}
use Rattle.node_rules.specs.EndpointRules.{OtherCall, OnCore, RecordEvent, endpoint_rules}
use Rattle.node_rules.specs.EndpointRules.{asked_answer, job_of, answer_told}
use Rattle.node_rules.specs.Memory.{Show, range_fault, unless_fault}
use Rattle.node_rules.specs.TransferCalls.{Caller}
use Rattle.node_rules.specs.declared.answer.Answer.{Answer}
use Rattle.node_rules.specs.declared.answer.Answer.TheVariants as answers
use Rattle.node_rules.specs.declared.answer.Begun.TheVariants as begun
use Rattle.node_rules.specs.declared.answer.Local.{Local as LocalAnswer}
use Rattle.node_rules.specs.declared.answer.Local.TheVariants as local
use Rattle.part_transfers.specs.declared.operation.Handle.{Handle}
use Rattle.node_endpoint.specs.EndpointState.{EndpointState, EndpointStands}
use Rattle.text_job.specs.declared.job.Job.{Job as JobState}
use Rattle.text_steps.specs.declared.steps.ScriptStep.{ScriptStep}
use Rattle.text_steps.specs.declared.steps.ScriptStep.TheVariants as step
use Rattle.text_steps.specs.declared.steps.WaitingStep.{WaitingStep}
use Rattle.text_steps.specs.declared.steps.WaitingStep.TheVariants as waiting
use Rattle.base_turns.specs.declared.entry.Entry.{Entry}
use Rattle.proc_machine.specs.NodeState.{script_job}
use Rattle.law_traces.specs.Actions.{Form, Once, Again, Until, Twice, Looks, Several, Progress, begins, calls_of}
use Rattle.law_traces.specs.Actions.{ended_by, next_calls, progress_after, tried_step, unless}
use Rattle.law_traces.specs.Actions.{StepContext, step_context}
use Rattle.law_traces.specs.Scripts.{ThreadCall, TryContext}
use Rattle.law_traces.specs.declared.script_answer.ScriptAnswer.{ScriptAnswer}
use Rattle.law_traces.specs.declared.script_answer.ScriptAnswer.TheVariants as said
use Rattle.law_traces.specs.Turn.{as_tried, context, events_of, first_answer, first_events, node_run, tried_answer}
use Rattle.text_script.specs.AnswersTold.{HasRange, NamesWhatIs}
use Rattle.text_script.specs.Bodies.{operand_value, script_meaning}
use Rattle.text_script.specs.Registration.{handlers_of, registry_of}
use Rattle.proc_machine.specs.Steps.{as_synced, begun_handle, is_issued, cell_reached, step_form, tried_while}
use Rattle.proc_machine.specs.Steps.{waits_of, word_reached}
use Rattle.part_collective_area.specs.declared.shape.Shape.{Shape}
use Rattle.proc_collective_steps.specs.Outcomes.{Outcome, start_by, start_ends, start_outcome}
use Rattle.proc_collective_steps.specs.Outcomes.{step_ends, step_outcome, try_ends}
use Rattle.proc_collective_steps.specs.Parts.{end_behind, first_part, later_by, later_part, start_asked}
use Rattle.node_collectives.specs.CollectivesState.{CollectivesState}
use Rattle.node_collectives.specs.declared.answers.EndAnswer.{EndAnswer}
use Rattle.node_collectives.specs.declared.answers.StartAnswer.{StartAnswer}
use Rattle.node_collectives.specs.declared.answers.StepAnswer.{StepAnswer}
use Rattle.text_steps.specs.declared.steps.CollectiveText.{CollectiveText}
use Rattle.text_steps.specs.declared.steps.CollectiveText.TheVariants as text
use Rattle.spec_node.specs.declared.answer.Asked.{Asked}
use Rattle.spec_node.specs.declared.answer.Asked.TheVariants as asked
use Rattle.proc_steps.specs.Forms.{call_part, calls_of_all, collective_form, in_one_try, nothing_there, site_of}
use Rattle.proc_steps.specs.Forms.{waiting_in, whole_form}
use Rattle.sim_run.proofs.ToldAnswers.{asked_names, plain_names, show_names}
use Rattle.node_rules.proofs.PlainAnswers.{answers_plain}
use Rattle.cli_check.specs.Recording.{BeginningsNameNothing, NamesNothing, ScriptedNode}
use Rattle.cli_check.specs.StepLines.{machine_after, answer_of_step}
use Rattle.cli_check.specs.StepsWritten.{NamesWhatIsThere}
use Rattle.cli_check.specs.Machines.{first_machine}

-- ---- the answer of a call

-- a call that shows bytes writes none
shown_writes : (fault : Option LocalAnswer) (answer : LocalAnswer) → (unless_fault fault (answer, [])).1 ≡ []
shown_writes None answer = refl
shown_writes (Some fault) answer = refl

-- the range that it shows lies inside the segment after it
range_shown : (endpoint : EndpointState) (settings : Parameters) (table : List (Option TableEntry)) (meaning : Meaning)
    (me thread now : ℕ) (node : Node EndpointLocal) (offset len : ℕ)
    → EndpointStands endpoint (node_after (job_of settings table meaning) me node now
    (Does thread (OnCore (OnSegment (Show offset len))))) → endpoint.core.settings ≡ settings
    → offset + len ≤ length (segment_of settings node.local.core) → HasRange endpoint offset len
range_shown endpoint settings table meaning me thread now node offset len stands same inside =
    let none = shown_writes (range_fault (segment_of settings node.local.core) offset len) (local.Shown offset len) in
    let all : node.local.core.writes
    ++ (unless_fault (range_fault (segment_of settings node.local.core) offset len) (local.Shown offset len, [])).1
    ≡ node.local.core.writes =
    ap (λ (writes : List Write). node.local.core.writes ++ writes) none ∙ append-nil node.local.core.writes in
    record {
      node = _;
      stands = stands;
      inside = rw same (subst (λ (writes : List Write). offset + len ≤ length (image settings.segment writes)) (sym all)
          inside);
    }

-- a thread of the node, as it calls
abbrev caller_at : Parameters → (me thread : ℕ) → Node EndpointLocal → Caller
caller_at settings me thread node =
    record { settings = settings; me = me; thread = thread; exhausted = is_exhausted settings node }

-- a call that makes no request
call_names : (endpoint : EndpointState) (settings : Parameters) (table : List (Option TableEntry)) (meaning : Meaning)
    (me thread now : ℕ) (node : Node EndpointLocal) (call : OtherCall)
    → EndpointStands endpoint (node_after (job_of settings table meaning) me node now (Does thread call))
    → endpoint.core.settings ≡ settings
    → NamesWhatIs endpoint (call_outcome (job_of settings table meaning) me node thread call).0
call_names endpoint settings table meaning me thread now node (OnCore (OnSegment (Show offset len))) stands same =
    let size = length (segment_of settings node.local.core) in
    show_names endpoint size offset len (nat_lt size (offset + len)) refl
    (range_shown endpoint settings table meaning me thread now node offset len stands same)
call_names endpoint settings table meaning me thread now node call stands same =
    plain_names endpoint (call_outcome (job_of settings table meaning) me node thread call).0
    (answers_plain (endpoint_rules settings table meaning) (rules settings table meaning)
    (caller_at settings me thread node) call node.local refl)

-- a call of a thread
thread_names : (endpoint : EndpointState) (settings : Parameters) (table : List (Option TableEntry)) (meaning : Meaning)
    (me thread now : ℕ) (node : Node EndpointLocal) (call : ThreadCall)
    → EndpointStands endpoint (node_after (job_of settings table meaning) me node now (node_event thread call))
    → endpoint.core.settings ≡ settings
    → NamesWhatIs endpoint (answer_told (node_answer (job_of settings table meaning) me node now (node_event thread call)))
thread_names endpoint settings table meaning me thread now node (Requests to asking) stands same =
    asked_names endpoint _
thread_names endpoint settings table meaning me thread now node (Performs call) stands same =
    call_names endpoint settings table meaning me thread now node call stands same

-- at most one call
abbrev AtMostOne : List ThreadCall → Type 0
AtMostOne [] = Unit {0}
AtMostOne (call ∷ []) = Unit {0}
AtMostOne (call ∷ later ∷ calls) = ⊥

one_or_none : (call : Option ThreadCall) → AtMostOne (option_to_list call)
one_or_none None = tt
one_or_none (Some call) = tt

-- the call that a try makes, if it makes one
made_names : (endpoint : EndpointState) (settings : Parameters) (table : List (Option TableEntry)) (meaning : Meaning)
    (me thread now : ℕ) (node : Node EndpointLocal) (calls : List ThreadCall)
    → EndpointStands endpoint (node_run (job_of settings table meaning) me now (events_of thread calls) node)
    → endpoint.core.settings ≡ settings → AtMostOne calls
    → IfSome (first_answer (job_of settings table meaning) me thread now calls node) (NamesWhatIs endpoint)
made_names endpoint settings table meaning me thread now node [] stands same few = tt
made_names endpoint settings table meaning me thread now node (call ∷ []) stands same few =
    thread_names endpoint settings table meaning me thread now node call stands same
made_names endpoint settings table meaning me thread now node (call ∷ later ∷ calls) stands same few = absurd few

-- the answer of a request names nothing
asked_nothing : (answer : Asked) → NamesNothing (asked_answer answer)
asked_nothing (asked.Forbidden rule) = tt
asked_nothing (asked.Accepted to slot number) = tt
asked_nothing asked.Ran = tt
asked_nothing (asked.BadArg part) = tt
asked_nothing (asked.LockBusy lock) = tt
asked_nothing asked.Exhausted = tt
asked_nothing asked.NotYet = tt

-- the first of the calls, if there is one, is a request
abbrev AsksFirst : List ThreadCall → Type 0
AsksFirst [] = Unit {0}
AsksFirst (Requests to asking ∷ calls) = Unit {0}
AsksFirst (Performs call ∷ calls) = ⊥

-- so its answer names nothing
first_nothing : (settings : Parameters) (table : List (Option TableEntry)) (meaning : Meaning) (me thread now : ℕ)
    (node : Node EndpointLocal) (calls : List ThreadCall) → AsksFirst calls
    → IfSome (first_answer (job_of settings table meaning) me thread now calls node) NamesNothing
first_nothing settings table meaning me thread now node [] asks = tt
first_nothing settings table meaning me thread now node (Requests to asking ∷ calls) asks = asked_nothing _
first_nothing settings table meaning me thread now node (Performs call ∷ calls) asks = absurd asks

-- ---- forms of steps

-- what the form says of its calls' answers names no more than these do; what it says without them names nothing
abbrev SaysNoMore : Form EndpointLocal → Type 0
SaysNoMore (Once call) = Unit {0}
SaysNoMore (Again waits call) = Unit {0}
SaysNoMore (Until call ends) =
    (endpoint : EndpointState) (answer : Answer) → NamesWhatIs endpoint answer
    → IfSome (ends answer) (NamesWhatIsThere endpoint)
SaysNoMore (Twice begin next waits says) =
    (endpoint : EndpointState) (answer : Answer) → NamesWhatIs endpoint answer → NamesWhatIs endpoint (says answer)
SaysNoMore (Looks begin ready) = Unit {0}
SaysNoMore (Several first later) =
    (endpoint : EndpointState)
    → IfSome first.ended (NamesWhatIsThere endpoint) × IfSome later.ended (NamesWhatIsThere endpoint)

-- where its first try begins something, the answer of its first call names nothing
abbrev BeginsPlainly : Form EndpointLocal → Type 0
BeginsPlainly (Once call) = Unit {0}
BeginsPlainly (Again waits call) = Unit {0}
BeginsPlainly (Until call ends) = Unit {0}
BeginsPlainly (Twice begin next waits says) =
    (answer : Answer) → is_some (next answer) ≡ true → NamesNothing answer
BeginsPlainly (Looks begin ready) =
    (answer : Answer) (node : Node EndpointLocal) → ready answer node ≡ false → NamesNothing answer
BeginsPlainly (Several first later) = is_none first.ended && is_some first.next ≡ true → AsksFirst first.calls

record IsSound (form : Form EndpointLocal) : Type 0 where
  says : SaysNoMore form
  begins : BeginsPlainly form

while_sound : (waits : Option (Answer → Bool)) (meant : ThreadCall) → IsSound (tried_while waits meant)
while_sound None meant = record { says = tt; begins = tt }
while_sound (Some waits) meant = record { says = tt; begins = tt }

-- an answer with a handle names nothing
handle_nothing : (answer : Answer) → is_some (begun_handle answer) ≡ true → NamesNothing answer
handle_nothing (answers.Local answer) is = absurd (false≢true is)
handle_nothing (answers.Ticked sent) is = absurd (false≢true is)
handle_nothing answer is = tt

-- an answer of a blocking transfer
synced_names : (endpoint : EndpointState) (answer : Answer) → NamesWhatIs endpoint answer
    → NamesWhatIs endpoint (as_synced answer)
synced_names endpoint (answers.Begun begun.Done) names = tt
synced_names endpoint answer names = names

some_mapped : (handle : Option Handle) (call : Handle → ThreadCall) → is_some (option_map call handle) ≡ true
    → is_some handle ≡ true
some_mapped None call is = absurd (false≢true is)
some_mapped (Some handle) call is = refl

sent_handle : (handle : Option Handle) (node : Node EndpointLocal) → is_issued handle node ≡ false
    → is_some handle ≡ true
sent_handle None node is = absurd (true≢false is)
sent_handle (Some handle) node is = refl

-- what ends a step that looks at its own node
reached_said : (endpoint : EndpointState) (enough : Bool)
    → IfSome (if enough then Some (said.Call (answers.Local local.Done)) else None) (NamesWhatIsThere endpoint)
reached_said endpoint true = tt
reached_said endpoint false = tt

reached_names : (endpoint : EndpointState) (value : ℤ) (answer : Answer)
    → IfSome (cell_reached value answer) (NamesWhatIsThere endpoint)
reached_names endpoint value (answers.Local (local.Cell number)) = reached_said endpoint (int_le value number)
reached_names endpoint value answer = tt

word_names : (endpoint : EndpointState) (number : ℕ) (answer : Answer) → NamesWhatIs endpoint answer
    → IfSome (word_reached number answer) (NamesWhatIsThere endpoint)
word_names endpoint number (answers.Local (local.Number found)) names = reached_said endpoint (found == number)
word_names endpoint number answer names = names

-- a step that ends in one try, without a call's answer
nothing_sound : IsSound nothing_there
nothing_sound = record { says = λ endpoint. (tt, tt); begins = λ is. absurd (false≢true is) }

call_sound : (call : CollectiveText) (at : TryContext) (node : Node EndpointLocal) (it : CollectivesState)
    → IsSound (in_one_try (call_part call at node it))
call_sound (text.Start shape from) at node it =
    record { says = λ endpoint. (tt, tt); begins = λ is. absurd (false≢true is) }
call_sound text.Step at node it = record { says = λ endpoint. (tt, tt); begins = λ is. absurd (false≢true is) }
call_sound (text.Try dest) at node it = record { says = λ endpoint. (tt, tt); begins = λ is. absurd (false≢true is) }

collective_sound : (call : CollectiveText) (at : StepContext) (node : Node EndpointLocal)
    → IsSound (collective_form call at node)
collective_sound call at node = by_state at.collectives
  where
    by_state : (state : Option CollectivesState)
        → IsSound (collective_form call (record at { collectives = state }) node)
    by_state None = nothing_sound
    by_state (Some it) = call_sound call at.place node it

-- ---- whole collectives

start_said : (endpoint : EndpointState) (ends : Option StartAnswer)
    → IfSome (option_map (λ one. said.Start one) ends) (NamesWhatIsThere endpoint)
start_said endpoint None = tt
start_said endpoint (Some one) = tt

end_said : (endpoint : EndpointState) (ends : Option EndAnswer)
    → IfSome (option_map (λ one. said.End one) ends) (NamesWhatIsThere endpoint)
end_said endpoint None = tt
end_said endpoint (Some one) = tt

later_said : (endpoint : EndpointState) (at : TryContext) (dest : ℕ) (node : Node EndpointLocal) (it : CollectivesState)
    (step : Outcome StepAnswer) (ends : Option StepAnswer)
    → IfSome (later_by at dest node it step ends).ended (NamesWhatIsThere endpoint)
later_said endpoint at dest node it step None = end_said endpoint (try_ends (end_behind at dest node step).answer)
later_said endpoint at dest node it step (Some end) = tt

-- the call of a start is a request
start_asks : (at : TryContext) (shape : Shape) (from : ℕ) (node : Node EndpointLocal) (it : CollectivesState)
    (refusal : Option StartAnswer)
    → AsksFirst (calls_of_all (start_by (site_of at) node it (start_asked at shape from) refusal).calls)
start_asks at shape from node it None = tt
start_asks at shape from node it (Some refusal) = tt

whole_sound : (shape : Shape) (from dest : ℕ) (at : StepContext) (node : Node EndpointLocal)
    → IsSound (whole_form shape from dest at node)
whole_sound shape from dest at node = by_state at.collectives
  where
    place : TryContext
    place = at.place

    by_me : (it : CollectivesState) (same : Bool)
        → IsSound (if same then Several (first_part place shape from node it) (later_part place dest node it)
        else nothing_there)
    by_me it true =
        let start = start_outcome (site_of place) node it (start_asked place shape from) in
        let step = step_outcome (site_of place) place.thread node it in
        record {
          says = λ endpoint. (
            start_said endpoint (start_ends start.answer),
            later_said endpoint place dest node it step (step_ends step.answer),
          );
          begins = λ is. start_asks place shape from node it _;
        }
    by_me it false = nothing_sound

    by_state : (state : Option CollectivesState)
        → IsSound (whole_form shape from dest (record at { collectives = state }) node)
    by_state None = nothing_sound
    by_state (Some it) = by_me it (it.me == place.me)

-- ---- steps

waiting_sound : (waiting : WaitingStep) (at : StepContext) (node : Node EndpointLocal)
    → IsSound (waiting_in waiting at node)
waiting_sound (waiting.Until cell operand) at node = record {
  says = λ endpoint answer names. reached_names endpoint (operand_value node.local.core.cells [] operand) answer;
  begins = tt;
}
waiting_sound (waiting.UntilWord offset number) at node = record {
  says = λ endpoint answer names. word_names endpoint number answer names;
  begins = tt;
}
waiting_sound (waiting.Transfer transfer) at node = record {
  says = synced_names;
  begins = λ answer is. handle_nothing answer (some_mapped (begun_handle answer) _ is);
}
waiting_sound (waiting.PutBegin register put) at node = record {
  says = tt;
  begins = λ answer after is. handle_nothing answer (sent_handle (begun_handle answer) after is);
}
waiting_sound (waiting.PutImplicit put) at node = record {
  says = tt;
  begins = λ answer after is. handle_nothing answer (sent_handle (begun_handle answer) after is);
}
waiting_sound (waiting.Wait register) at node = record { says = tt; begins = tt }
waiting_sound (waiting.WaitAll registers) at node = record { says = tt; begins = tt }
waiting_sound (waiting.WaitSome registers) at node = record { says = tt; begins = tt }
waiting_sound (waiting.WaitImplicit which) at node = record { says = tt; begins = tt }
waiting_sound (waiting.BarrierWait id flags) at node = record { says = tt; begins = tt }
waiting_sound (waiting.Collective shape from dest) at node = whole_sound shape from dest at node

-- so is that of each step of a script
step_sound : (step : ScriptStep) (at : StepContext) (node : Node EndpointLocal) → IsSound (step_form step at node)
step_sound (step.Call call) at node = while_sound (waits_of call) _
step_sound (step.Vis vis) at node =
    record { says = λ endpoint. (tt, tt); begins = λ is. absurd (false≢true is) }
step_sound (step.Collective call) at node = collective_sound call at node
step_sound (step.Waiting waiting) at node = waiting_sound waiting at node

-- ---- how a try ended

-- what names nothing is there
nothing_names : (endpoint : EndpointState) (answer : Answer) → NamesNothing answer → NamesWhatIs endpoint answer
nothing_names endpoint (answers.Local answer) none = absurd none
nothing_names endpoint (answers.Ticked sent) none = absurd none
nothing_names endpoint answer none = tt

unless_said : (endpoint : EndpointState) (waits : Bool) (answer : Answer) → NamesWhatIs endpoint answer
    → IfSome (unless waits answer) (NamesWhatIsThere endpoint)
unless_said endpoint true answer names = tt
unless_said endpoint false answer names = names

-- by the form of the step
form_names : (endpoint : EndpointState) (form : Form EndpointLocal) (began : Option Answer)
    (after : Node EndpointLocal) (answer : Option Answer) → SaysNoMore form
    → IfSome began NamesNothing → (AtMostOne (calls_of form began) → IfSome answer (NamesWhatIs endpoint))
    → IfSome (ended_by form began after answer) (NamesWhatIsThere endpoint)
form_names endpoint (Once call) began after None sound plain names = tt
form_names endpoint (Once call) began after (Some answer) sound plain names = names tt
form_names endpoint (Again waits call) began after None sound plain names = tt
form_names endpoint (Again waits call) began after (Some answer) sound plain names =
    unless_said endpoint (waits answer) answer (names tt)
form_names endpoint (Until call ends) began after None sound plain names = tt
form_names endpoint (Until call ends) began after (Some answer) sound plain names =
    sound endpoint answer (names tt)
form_names endpoint (Twice begin next waits says) None after None sound plain names = tt
form_names endpoint (Twice begin next waits says) None after (Some answer) sound plain names =
    unless_said endpoint (is_some (next answer)) (says answer) (sound endpoint answer (names tt))
form_names endpoint (Twice begin next waits says) (Some first) after None sound plain names = tt
form_names endpoint (Twice begin next waits says) (Some first) after (Some answer) sound plain names =
    unless_said endpoint (waits answer) (says answer) (sound endpoint answer (names (one_or_none (next first))))
form_names endpoint (Looks begin ready) None after None sound plain names = tt
form_names endpoint (Looks begin ready) None after (Some answer) sound plain names =
    unless_said endpoint (not (ready answer after)) answer (names tt)
form_names endpoint (Looks begin ready) (Some first) after answer sound plain names =
    unless_said endpoint (not (ready first after)) first (nothing_names endpoint first plain)
form_names endpoint (Several first later) None after answer sound plain names = (sound endpoint).0
form_names endpoint (Several first later) (Some begun_so) after answer sound plain names = (sound endpoint).1

-- by what is left of the script
step_names : (endpoint : EndpointState) (at : StepContext) (progress : Progress ScriptStep)
    (before after : Node EndpointLocal) (answer : Option Answer)
    → IfSome progress.began NamesNothing
    → (AtMostOne (next_calls step_form at progress.began progress.left before)
    → IfSome answer (NamesWhatIs endpoint))
    → IfSome (tried_step step_form at progress.began progress.left before after answer).ended (NamesWhatIsThere endpoint)
step_names endpoint at progress before after answer plain names = by_left progress.left names
  where
    by_left : (left : List ScriptStep)
        → (AtMostOne (next_calls step_form at progress.began left before) → IfSome answer (NamesWhatIs endpoint))
        → IfSome (tried_step step_form at progress.began left before after answer).ended (NamesWhatIsThere endpoint)
    by_left [] few = tt
    by_left (action ∷ rest) few =
        form_names endpoint (step_form action at before) progress.began after answer
        (step_sound action at before).says plain few

-- events one after another
run_append : (settings : Parameters) (table : List (Option TableEntry)) (meaning : Meaning) (me now : ℕ)
    (first second : List RecordEvent) (node : Node EndpointLocal)
    → node_run (job_of settings table meaning) me now (first ++ second) node
    ≡ node_run (job_of settings table meaning) me now second
    (node_run (job_of settings table meaning) me now first node)
run_append settings table meaning me now [] second node = refl
run_append settings table meaning me now (event ∷ first) second node =
    run_append settings table meaning me now first second
    (node_after (job_of settings table meaning) me node now event)

-- what the answer of the step that ended in the turn of an entry names is there after it
pub ended_names : (job : JobState) (rank : ℕ) (machine : ScriptedNode) (entry : Entry) (endpoint : EndpointState)
    → BeginningsNameNothing machine → EndpointStands endpoint (machine_after job rank machine entry).node
    → endpoint.core.settings ≡ job.settings
    → IfSome (answer_of_step job rank machine entry) (NamesWhatIsThere endpoint)
ended_names job rank machine entry endpoint beginnings stands same =
    let all = script_job job in
    let before = as_tried all rank machine entry.thread entry.now entry.got in
    let at = context all rank entry.thread entry.now in
    let calls = all.scripts.calls at machine.own before in
    let table = (registry_of (handlers_of job)).table in
    let meaning = script_meaning (handlers_of job) in
    let there : EndpointStands endpoint (node_run (job_of job.settings table meaning) rank entry.now
    (events_of entry.thread calls) before) =
    subst (EndpointStands endpoint) (run_append job.settings table meaning rank entry.now
    (first_events all machine entry.thread entry.got) (events_of entry.thread calls) machine.node) stands in
    step_names endpoint (step_context at machine.own) (machine.own.threads entry.thread) before
    (machine_after job rank machine entry).node
    (tried_answer all rank machine entry.thread entry.now entry.got) (beginnings entry.thread)
    (made_names endpoint job.settings table meaning rank entry.thread entry.now before calls there same)

-- ---- what is left of the script

waited : (waits : Bool) (answer : Answer) → unless waits answer ≡ None → waits ≡ true
waited true answer none = refl
waited false answer none = absurd (cc)

not_true : (b : Bool) → not b ≡ true → b ≡ false
not_true true is = absurd (false≢true is)
not_true false is = refl

-- where a try ended nothing, the answer with which its step began names nothing
form_begins : (form : Form EndpointLocal) (after : Node EndpointLocal) (answer : Option Answer)
    → BeginsPlainly form → (AsksFirst (calls_of form None) → IfSome answer NamesNothing) → begins form ≡ true
    → ended_by form None after answer ≡ None → IfSome answer NamesNothing
form_begins (Once call) after answer sound asks begun none = absurd (false≢true begun)
form_begins (Again waits call) after answer sound asks begun none = absurd (false≢true begun)
form_begins (Until call ends) after answer sound asks begun none = absurd (false≢true begun)
form_begins (Twice begin next waits says) after None sound asks begun none = tt
form_begins (Twice begin next waits says) after (Some answer) sound asks begun none =
    sound answer (waited (is_some (next answer)) (says answer) none)
form_begins (Several first later) after answer sound asks begun none = asks (sound begun)
form_begins (Looks begin ready) after None sound asks begun none = tt
form_begins (Looks begin ready) after (Some answer) sound asks begun none =
    sound answer after (not_true (ready answer after) (waited (not (ready answer after)) answer none))

-- what is left where a try ended nothing
abbrev left_then : (action : ScriptStep) → (rest : List ScriptStep) → (begins_it : Bool)
    → (first answer : Option Answer) → Progress ScriptStep
left_then action rest begins_it first answer =
    if begins_it && is_none first then record { left = action ∷ rest; began = answer }
    else record { left = action ∷ rest; began = first }

-- the script after a try
progress_begins : (form : Form EndpointLocal) (action : ScriptStep) (rest : List ScriptStep) (began : Option Answer)
    (after : Node EndpointLocal) (answer : Option Answer) → BeginsPlainly form
    → (AsksFirst (calls_of form began) → IfSome answer NamesNothing) → IfSome began NamesNothing
    → IfSome (progress_after form action rest began (ended_by form began after answer) answer).began
    NamesNothing
progress_begins form action rest began after answer sound asks plain = by_end (ended_by form began after answer) refl
  where
    by_begin : (begins_it : Bool) → begins form ≡ begins_it → (first : Option Answer) → began ≡ first
        → ended_by form began after answer ≡ None
        → IfSome (left_then action rest begins_it first answer).began
        NamesNothing
    by_begin true is None none ended =
        form_begins form after answer sound
        (subst (λ (first : Option Answer). AsksFirst (calls_of form first) → IfSome answer NamesNothing) none asks) is
        (subst (λ (first : Option Answer). ended_by form first after answer ≡ None) none ended)
    by_begin true is (Some first) same ended =
        subst (λ (one : Option Answer). IfSome one NamesNothing) same plain
    by_begin false is first same ended =
        subst (λ (one : Option Answer). IfSome one NamesNothing) same plain

    by_end : (ended : Option ScriptAnswer) → ended_by form began after answer ≡ ended
        → IfSome (progress_after form action rest began ended answer).began
        NamesNothing
    by_end (Some said) is = tt
    by_end None is = by_begin (begins form) refl began refl is

step_begins : (at : StepContext) (progress : Progress ScriptStep) (before after : Node EndpointLocal)
    (answer : Option Answer) → IfSome progress.began NamesNothing
    → (AsksFirst (next_calls step_form at progress.began progress.left before) → IfSome answer NamesNothing)
    → IfSome (tried_step step_form at progress.began progress.left before after answer).left.began
    NamesNothing
step_begins at progress before after answer plain asks = by_left progress.left asks
  where
    by_left : (left : List ScriptStep)
        → (AsksFirst (next_calls step_form at progress.began left before) → IfSome answer NamesNothing)
        → IfSome (tried_step step_form at progress.began left before after answer).left.began
        NamesNothing
    by_left [] first = plain
    by_left (action ∷ rest) first =
        progress_begins (step_form action at before) action rest progress.began after answer
        (step_sound action at before).begins first plain

-- one of two
either_begins : (here : Bool) (one other : Progress ScriptStep)
    → IfSome one.began NamesNothing
    → IfSome other.began NamesNothing
    → IfSome (if here then one else other).began NamesNothing
either_begins true one other first second = first
either_begins false one other first second = second

-- each answer with which a step was begun by the end of the turn of an entry names nothing
pub after_beginnings : (job : JobState) (rank : ℕ) (machine : ScriptedNode) (entry : Entry)
    → BeginningsNameNothing machine → BeginningsNameNothing (machine_after job rank machine entry)
after_beginnings job rank machine entry beginnings thread =
    let all = script_job job in
    let at = context all rank entry.thread entry.now in
    let before = as_tried all rank machine entry.thread entry.now entry.got in
    let table = (registry_of (handlers_of job)).table in
    let meaning = script_meaning (handlers_of job) in
    either_begins (thread == entry.thread) _ (machine.own.threads thread)
    (step_begins (step_context at machine.own) (machine.own.threads entry.thread) before
    (machine_after job rank machine entry).node (tried_answer all rank machine entry.thread entry.now entry.got)
    (beginnings entry.thread)
    (first_nothing job.settings table meaning rank entry.thread entry.now before
    (all.scripts.calls at machine.own before)))
    (beginnings thread)

-- before all turns no step was begun
pub first_beginnings : (job : JobState) (rank : ℕ) → BeginningsNameNothing (first_machine job rank)
first_beginnings job rank thread = tt
