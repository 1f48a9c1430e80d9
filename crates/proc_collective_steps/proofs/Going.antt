-- The calls of collectives, as events of the node: what they leave and send, and that the invariant holds between them.
use Rattle.std.proofs.Common.{◌≡◌, ℕ, zero, suc, Bool, true, false, List, [], ◌∷◌, ◌++◌, map, Option, None, Some, refl, sym}
use Rattle.std.proofs.Common.{ap, ◌∙◌, subst}
use Rattle.std.specs.Option.{option_to_list}
use Rattle.part_segment.specs.Image.{Write}
use Rattle.spec_node.specs.Record.{Node}
use Rattle.spec_node.specs.Behaviour.{Ask, Asking}
use Rattle.spec_node.specs.Invariant.{NodeInvariant}
use Rattle.spec_node.specs.NodeStep.{Asks, Does, IsAllSound, site_of as record_site}
use Rattle.spec_node.specs.Spelled.{IsAskSpelled}
use Rattle.spec_node.specs.Step.{request_answer, request_slot}
use Rattle.spec_node.specs.declared.answer.Asked.{Asked}
use Rattle.spec_node.specs.declared.answer.Asked.TheVariants as asked
use Rattle.spec_node.specs.declared.answer.SlotRef.{SlotRef}
use Rattle.spec_node.proofs.Answers.{accepted_says}
use Rattle.spec_node.proofs.NodeEvents.{event_keeps}
use Rattle.spec_network.specs.Sent.{Packet, asked_sends, sends as packets_of}
use Rattle.node_rules.specs.Called.{Meant, Requests, Performs, node_event}
use Rattle.node_rules.specs.CoreCalls.{OnSegment, Poll}
use Rattle.node_rules.specs.EndpointLocal.{EndpointLocal, IsEndpointKept}
use Rattle.node_rules.specs.EndpointRules.{OnCore, OtherCall, RecordEvent, asked_answer}
use Rattle.node_rules.specs.Memory.{Set}
use Rattle.node_rules.specs.Sends.{sends}
use Rattle.node_rules.specs.declared.answer.Answer.{Answer}
use Rattle.node_collectives.specs.CollectivesState.{CollectivesState, progress_of}
use Rattle.node_collectives.specs.Ends.{calls_behind, result_in, segment_in, set_call, tried_answer}
use Rattle.node_collectives.specs.Progress.{end_refusal, is_left, is_open, start_ask, start_refusal, step_ask, writes_from}
use Rattle.node_collectives.specs.Steps.{after_ask, step_call, step_told}
use Rattle.node_collectives.specs.declared.answers.EndAnswer.{EndAnswer}
use Rattle.node_collectives.specs.declared.answers.EndAnswer.TheVariants as ends
use Rattle.node_collectives.specs.declared.answers.StartAnswer.{StartAnswer}
use Rattle.node_collectives.specs.declared.answers.StepAnswer.{StepAnswer}
use Rattle.part_collective_area.specs.declared.shape.Shape.{Shape}
use Rattle.node_endpoint.specs.Sites.{ThreadCall as CallerCall, node_in_the_end, node_then}
use Rattle.law_traces.specs.Outgoing.{slot_of_packet, StaysWell}
use Rattle.law_traces.specs.Scripts.{TryContext}
use Rattle.law_traces.specs.Turn.{events_of, node_run, node_sends}
use Rattle.proc_collective_steps.specs.Outcomes.{Outcome, end_by, end_outcome, last_from, sent_by, start_by}
use Rattle.proc_collective_steps.specs.Outcomes.{start_outcome, step_from, step_outcome}
use Rattle.proc_collective_steps.specs.Parts.{calls_of_all, end_asked, site_of, start_asked}
use Rattle.proc_collective_steps.specs.Tries.{job_at}
use Rattle.proc_collective_steps.proofs.Resting.{from_left, from_open, rest_from}

-- ---- calls of a thread

-- the invariant holds of the record
abbrev pub Keeps : TryContext → Node EndpointLocal → Type 0
Keeps at node = NodeInvariant at.settings (IsEndpointKept at.settings) at.me node

abbrev pub IsSoundAt : TryContext → Type 0
IsSoundAt at = IsAllSound (job_at at).behaviour (IsEndpointKept at.settings)

-- the events of calls
abbrev pub events_by : TryContext → List CallerCall → List RecordEvent
events_by at calls = events_of at.thread (calls_of_all calls)

-- what these calls leave, send and keep
pub record Goes (at : TryContext) (node : Node EndpointLocal) (calls : List CallerCall) (slots : List SlotRef) : Type 0
  where
    pub leaves : node_in_the_end (site_of at) node calls
        ≡ node_run (job_at at) at.me at.now (events_by at calls) node
    pub slots_are : slots ≡ map slot_of_packet (node_sends (job_at at) at.me at.now (events_by at calls) node)
    pub well : StaysWell (job_at at) (IsEndpointKept at.settings) at.me at.now (events_by at calls) node

abbrev by_thread : TryContext → Meant → CallerCall
by_thread at call = record { thread = at.thread; call = call }

-- the record after a call
abbrev then_at : TryContext → Node EndpointLocal → Meant → Node EndpointLocal
then_at at node call = node_then (site_of at) node (by_thread at call)

-- what it sends
abbrev packets_at : TryContext → Node EndpointLocal → Meant → List Packet
packets_at at node call = packets_of (job_at at) at.me node at.now (node_event at.thread call)

goes_none : (at : TryContext) (node : Node EndpointLocal) → Keeps at node → Goes at node [] []
goes_none at node keeps = record { leaves = refl; slots_are = refl; well = keeps }

-- a call that sends nothing, before others
goes_quiet : (at : TryContext) (node : Node EndpointLocal) (call : Meant) (calls : List CallerCall)
    (slots : List SlotRef) → packets_at at node call ≡ [] → Keeps at node → Goes at (then_at at node call) calls slots
    → Goes at node (by_thread at call ∷ calls) slots
goes_quiet at node call calls slots none keeps rest = record {
  leaves = rest.leaves;
  slots_are = rest.slots_are
      ∙ ap (λ (packets : List Packet). map slot_of_packet (packets
      ++ node_sends (job_at at) at.me at.now (events_by at calls) (then_at at node call))) (sym none);
  well = (keeps, rest.well);
}

-- the last call
goes_last : (at : TryContext) (node : Node EndpointLocal) (call : Meant) (slots : List SlotRef)
    → slots ≡ map slot_of_packet (packets_at at node call ++ []) → Keeps at node → Keeps at (then_at at node call)
    → Goes at node (by_thread at call ∷ []) slots
goes_last at node call slots are keeps later = record { leaves = refl; slots_are = are; well = (keeps, later) }

-- ---- calls that are no requests

does_keep : (at : TryContext) (node : Node EndpointLocal) (call : OtherCall) → IsSoundAt at → Keeps at node
    → Keeps at (then_at at node (Performs call))
does_keep at node call sound keeps =
    event_keeps (job_at at) (IsEndpointKept at.settings) at.me node at.now (Does at.thread call) sound keeps tt

sets_go : (at : TryContext) (node : Node EndpointLocal) (writes : List Write) → IsSoundAt at → Keeps at node
    → Goes at node (map (set_call at.thread) writes) []
sets_go at node [] sound keeps = goes_none at node keeps
sets_go at node (write ∷ writes) sound keeps =
    let call = OnCore (OnSegment (Set write)) in
    goes_quiet at node (Performs call) (map (set_call at.thread) writes) [] refl keeps
    (sets_go at (then_at at node (Performs call)) writes sound (does_keep at node call sound keeps))

pub end_goes : (at : TryContext) (node : Node EndpointLocal) (it : CollectivesState) (dest : ℕ) → IsSoundAt at
    → Keeps at node → Goes at node (end_outcome (site_of at) node it (end_asked at dest)).calls []
end_goes at node it dest sound keeps =
    by_refusal (end_refusal it.area it.settings.segment it.me (progress_of it) dest)
  where
    polled : Node EndpointLocal
    polled = then_at at node (Performs (OnCore Poll))

    kept : Keeps at polled
    kept = does_keep at node (OnCore Poll) sound keeps

    behind : (answer : EndAnswer)
        → Goes at polled (calls_behind it (segment_in (site_of at) node) (end_asked at dest) answer) []
    behind ends.Ended =
        sets_go at polled (writes_from dest (result_in it (segment_in (site_of at) node))) sound kept
    behind (ends.Mismatch other) = goes_none at polled kept
    behind ends.NotReady = goes_none at polled kept
    behind ends.NotStarted = goes_none at polled kept
    behind (ends.BadArg argument) = goes_none at polled kept
    behind (ends.Exhausted other) = goes_none at polled kept
    behind (ends.Forbidden why) = goes_none at polled kept
    behind ends.NoMemory = goes_none at polled kept

    by_refusal : (refusal : Option EndAnswer)
        → Goes at node (end_by (site_of at) node it (end_asked at dest) refusal).calls []
    by_refusal (Some first) = goes_none at node keeps
    by_refusal None =
        let answer = tried_answer (site_of at) node it at.thread in
        goes_quiet at node (Performs (OnCore Poll))
        (calls_behind it (segment_in (site_of at) node) (end_asked at dest) answer) [] refl keeps (behind answer)

-- ---- requests

abbrev ask_by : TryContext → (to : ℕ) → Asking → Ask
ask_by at to what = record { thread = at.thread; to = to; what = what }

abbrev answer_to : TryContext → Node EndpointLocal → (to : ℕ) → Asking → Asked
answer_to at node to what = request_answer (record_site (job_at at) at.me) node (ask_by at to what)

-- the slot that the answer of a request names is that of its message
slots_by : (at : TryContext) (node : Node EndpointLocal) (to : ℕ) (what : Asking) (a : Asked)
    → answer_to at node to what ≡ a
    → option_to_list (sends (asked_answer a))
    ≡ map slot_of_packet (asked_sends (record_site (job_at at) at.me) node (ask_by at to what) a ++ [])
slots_by at node to what (asked.Accepted peer slot number) e =
    let says = accepted_says (record_site (job_at at) at.me) node (ask_by at to what) peer slot number e in
    ap (λ (t : ℕ). request_slot t slot ∷ []) says.peer_is
slots_by at node to what asked.Ran e = refl
slots_by at node to what (asked.BadArg fault) e = refl
slots_by at node to what (asked.Forbidden why) e = refl
slots_by at node to what (asked.LockBusy lock) e = refl
slots_by at node to what asked.Exhausted e = refl
slots_by at node to what asked.NotYet e = refl

slots_sent : (at : TryContext) (node : Node EndpointLocal) (to : ℕ) (what : Asking) (a : Asked)
    → answer_to at node to what ≡ a
    → option_to_list (sends (asked_answer a)) ≡ map slot_of_packet (packets_at at node (Requests to what) ++ [])
slots_sent at node to what a e =
    slots_by at node to what a e
    ∙ ap (λ (x : Asked). map slot_of_packet
    (asked_sends (record_site (job_at at) at.me) node (ask_by at to what) x ++ []))
    (sym e)

-- no request that was not accepted sends or breaks anything
pub record IsUnsent (at : TryContext) (node : Node EndpointLocal) (to : ℕ) (what : Asking) : Type 0 where
  pub none : packets_at at node (Requests to what) ≡ []
  pub keeps : Keeps at (then_at at node (Requests to what))

unsent : (at : TryContext) (node : Node EndpointLocal) (to : ℕ) (what : Asking) (a : Asked) → IsSoundAt at
    → Keeps at node → answer_to at node to what ≡ a
    → asked_sends (record_site (job_at at) at.me) node (ask_by at to what) a ≡ []
    → IsAskSpelled (record_site (job_at at) at.me) node at.now (ask_by at to what) a → IsUnsent at node to what
unsent at node to what a sound keeps e none spelled = record {
  none = ap (asked_sends (record_site (job_at at) at.me) node (ask_by at to what)) e ∙ none;
  keeps = event_keeps (job_at at) (IsEndpointKept at.settings) at.me node at.now (Asks (ask_by at to what)) sound keeps
      (subst (IsAskSpelled (record_site (job_at at) at.me) node at.now (ask_by at to what)) (sym e) spelled);
}

-- ---- a start

pub start_goes : (at : TryContext) (node : Node EndpointLocal) (it : CollectivesState) (shape : Shape) (from : ℕ)
    → Keeps at node
    → let outcome = start_outcome (site_of at) node it (start_asked at shape from) in
    Keeps at (node_in_the_end (site_of at) node outcome.calls)
    → Goes at node outcome.calls (option_to_list (sent_by (last_from (site_of at) None node outcome.calls)))
start_goes at node it shape from keeps =
    by_refusal (start_refusal it.area it.settings.segment (progress_of it) shape from)
  where
    by_refusal : (refusal : Option StartAnswer)
        → let outcome = start_by (site_of at) node it (start_asked at shape from) refusal in
        Keeps at (node_in_the_end (site_of at) node outcome.calls)
        → Goes at node outcome.calls (option_to_list (sent_by (last_from (site_of at) None node outcome.calls)))
    by_refusal (Some first) last = goes_none at node keeps
    by_refusal None last =
        let ask = start_ask it.area it.me at.thread (progress_of it) shape from in
        goes_last at node (Requests ask.to ask.what)
        (option_to_list (sends (asked_answer (answer_to at node ask.to ask.what))))
        (slots_sent at node ask.to ask.what (answer_to at node ask.to ask.what) refl) keeps last

-- ---- a step

-- what a step that comes to this leaves and sends
abbrev pub GoesFrom : TryContext → Node EndpointLocal → Option Answer → Outcome StepAnswer → Type 0
GoesFrom at node last outcome =
    Keeps at (node_in_the_end (site_of at) node outcome.calls)
    → Goes at node outcome.calls (option_to_list (sent_by (last_from (site_of at) last node outcome.calls)))

-- so it is of the rest of a step
abbrev Deeper : TryContext → (to many : ℕ) → Type 0
Deeper at to many =
    (node : Node EndpointLocal) (it : CollectivesState) (last : Option Answer) → sent_by last ≡ None → Keeps at node
    → GoesFrom at node last (step_from (site_of at) at.thread to many node it)

-- the calls of a step behind one that was answered so
abbrev GoesBehind : TryContext → (to many : ℕ) → Node EndpointLocal → CollectivesState → Asked → Type 0
GoesBehind at to many node it a =
    let site = site_of at in
    let call = step_call it at.thread to in
    let next = node_then site node call in
    let told : Option Answer = Some (asked_answer a) in
    let rest = rest_from site at.thread to many next it told (step_told to told) in
    Keeps at (node_in_the_end site next rest.calls)
    → Goes at node (call ∷ rest.calls) (option_to_list (sent_by (last_from site told next rest.calls)))

-- what a step says to a node
abbrev said_to : TryContext → (to : ℕ) → CollectivesState → Asking
said_to at to it = (step_ask it.area it.me at.thread to (progress_of it)).what

passed_goes : (at : TryContext) (to many : ℕ) (node : Node EndpointLocal) (it : CollectivesState) (a : Asked)
    → IsSoundAt at → Keeps at node → Deeper at (suc to) many → answer_to at node to (said_to at to it) ≡ a
    → asked_sends (record_site (job_at at) at.me) node (ask_by at to (said_to at to it)) a ≡ []
    → IsAskSpelled (record_site (job_at at) at.me) node at.now (ask_by at to (said_to at to it)) a
    → sends (asked_answer a) ≡ None
    → let site = site_of at in
    let next = node_then site node (step_call it at.thread to) in
    let rest = step_from site at.thread (suc to) many next (after_ask it to (Some (asked_answer a))) in
    Keeps at (node_in_the_end site next rest.calls)
    → Goes at node (step_call it at.thread to ∷ rest.calls)
    (option_to_list (sent_by (last_from site (Some (asked_answer a)) next rest.calls)))
passed_goes at to many node it a sound keeps deeper e none spelled quiet end =
    let site = site_of at in
    let what = said_to at to it in
    let next = node_then site node (step_call it at.thread to) in
    let after = after_ask it to (Some (asked_answer a)) in
    let rest = step_from site at.thread (suc to) many next after in
    let one = unsent at node to what a sound keeps e none spelled in
    goes_quiet at node (Requests to what) rest.calls
    (option_to_list (sent_by (last_from site (Some (asked_answer a)) next rest.calls))) one.none keeps
    (deeper next after (Some (asked_answer a)) quiet one.keeps end)

answered_goes : (at : TryContext) (to many : ℕ) (node : Node EndpointLocal) (it : CollectivesState) → IsSoundAt at
    → Keeps at node → Deeper at (suc to) many → (a : Asked) → answer_to at node to (said_to at to it) ≡ a
    → GoesBehind at to many node it a
answered_goes at to many node it sound keeps deeper (asked.Accepted peer slot number) e end =
    let what = said_to at to it in
    goes_last at node (Requests to what) (request_slot peer slot ∷ [])
    (slots_sent at node to what (asked.Accepted peer slot number) e) keeps end
answered_goes at to many node it sound keeps deeper (asked.Forbidden why) e end =
    let what = said_to at to it in
    goes_last at node (Requests to what) [] (slots_sent at node to what (asked.Forbidden why) e) keeps end
answered_goes at to many node it sound keeps deeper asked.Ran e end =
    passed_goes at to many node it asked.Ran sound keeps deeper e refl tt refl end
answered_goes at to many node it sound keeps deeper (asked.BadArg fault) e end =
    passed_goes at to many node it (asked.BadArg fault) sound keeps deeper e refl tt refl end
answered_goes at to many node it sound keeps deeper (asked.LockBusy lock) e end =
    passed_goes at to many node it (asked.LockBusy lock) sound keeps deeper e refl tt refl end
answered_goes at to many node it sound keeps deeper asked.Exhausted e end =
    passed_goes at to many node it asked.Exhausted sound keeps deeper e refl tt refl end
answered_goes at to many node it sound keeps deeper asked.NotYet e end =
    passed_goes at to many node it asked.NotYet sound keeps deeper e refl tt refl end

left_goes : (at : TryContext) (to many : ℕ) (node : Node EndpointLocal) (it : CollectivesState) (last : Option Answer)
    → IsSoundAt at → sent_by last ≡ None → Keeps at node → Deeper at (suc to) many → (left : Bool)
    → GoesFrom at node last (from_left (site_of at) at.thread to many node it left)
left_goes at to many node it last sound silent keeps deeper false = deeper node it last silent keeps
left_goes at to many node it last sound silent keeps deeper true =
    answered_goes at to many node it sound keeps deeper (answer_to at node to (said_to at to it)) refl

steps_go : (at : TryContext) (to many : ℕ) → IsSoundAt at → Deeper at to many
steps_go at to zero sound node it last silent keeps end =
    subst (λ (slot : Option SlotRef). Goes at node [] (option_to_list slot)) (sym silent) (goes_none at node keeps)
steps_go at to (suc many) sound node it last silent keeps end =
    left_goes at to many node it last sound silent keeps (steps_go at (suc to) many sound)
    (is_left it.me to (progress_of it)) end

pub step_goes : (at : TryContext) (node : Node EndpointLocal) (it : CollectivesState) → IsSoundAt at → Keeps at node
    → GoesFrom at node None (step_outcome (site_of at) at.thread node it)
step_goes at node it sound keeps = by_open (is_open (progress_of it))
  where
    by_open : (open_ : Bool) → GoesFrom at node None (from_open (site_of at) at.thread node it open_)
    by_open true = steps_go at 0 it.area.nodes sound node it None refl keeps
    by_open false = λ end. goes_none at node keeps
