-- The tries of steps that run collectives, from the calls of these.
use Rattle.std.proofs.Common.{◌≡◌, ℕ, ◌+◌, ◌<◌, Bool, true, false, true≢false, ◌&&◌, not, List, [], ◌∷◌, ◌++◌, map, Option, None}
use Rattle.std.proofs.Common.{Some, refl, sym, ap, ap₂, ◌∙◌, subst, arith, append_assoc, cond}
use Rattle.std.specs.Prelude.{is_none, is_some, slice_get}
use Rattle.std.proofs.lemmas.Option.{none-some, same_Some}
use Rattle.std.specs.Option.{option_map, option_or, option_to_list}
use Rattle.std.proofs.lemmas.List.{append-nil, map-append}
use Rattle.part_collective_area.specs.Area.{Area}
use Rattle.part_collective_area.specs.declared.shape.Shape.{Shape}
use Rattle.part_handlers.specs.Runs.{Meaning}
use Rattle.part_handlers.specs.declared.table.Entry.{Entry}
use Rattle.wire_message.specs.Parameters.{Parameters}
use Rattle.spec_node.specs.Record.{Node}
use Rattle.spec_node.specs.NodeStep.{node_after}
use Rattle.spec_node.specs.declared.answer.SlotRef.{SlotRef}
use Rattle.spec_network.specs.Sent.{Packet, sends as packets_of}
use Rattle.node_rules.specs.Called.{node_event}
use Rattle.node_rules.specs.EndpointLocal.{EndpointLocal, IsEndpointKept}
use Rattle.node_rules.specs.EndpointRules.{RecordEvent}
use Rattle.node_rules.specs.declared.answer.Answer.{Answer}
use Rattle.node_rules.specs.declared.answer.Answer.TheVariants as answers
use Rattle.node_collectives.specs.CollectivesState.{CollectivesState, IsSameNode, Stands, progress_of}
use Rattle.node_collectives.specs.Ends.{EndAsked, end_told, ended_then, poll_call, segment_in, tried_answer}
use Rattle.node_collectives.specs.Progress.{end_refusal, is_bad_dest, is_open, is_ready, has_exhausted, other_shape}
use Rattle.node_collectives.specs.Progress.{start_refusal, exhausted_node}
use Rattle.node_collectives.specs.Starts.{StartAsked, start_call, start_told, started_then}
use Rattle.node_collectives.specs.declared.answers.Argument.TheVariants as arguments
use Rattle.node_collectives.specs.declared.answers.EndAnswer.{EndAnswer}
use Rattle.node_collectives.specs.declared.answers.EndAnswer.TheVariants as ends
use Rattle.node_collectives.specs.declared.answers.StartAnswer.{StartAnswer}
use Rattle.node_collectives.specs.declared.answers.StartAnswer.TheVariants as starts
use Rattle.node_collectives.specs.declared.answers.StepAnswer.{StepAnswer}
use Rattle.node_endpoint.specs.EndpointState.{EndpointState, EndpointStands}
use Rattle.node_endpoint.specs.Sites.{Site, ThreadCall as CallerCall, answer_at, node_in_the_end, node_then}
use Rattle.law_traces.specs.Actions.{Part}
use Rattle.law_traces.specs.Outgoing.{slot_of_packet, StaysWell}
use Rattle.law_traces.specs.Scripts.{ThreadCall, TryContext}
use Rattle.law_traces.specs.Turn.{node_run, node_sends}
use Rattle.law_traces.specs.declared.script_answer.ScriptAnswer.{ScriptAnswer}
use Rattle.law_traces.specs.declared.script_answer.ScriptAnswer.TheVariants as said
use Rattle.proc_collective_steps.specs.Outcomes.{Outcome, end_by, end_outcome, is_nothing, is_quiet, is_started, is_unexhausted}
use Rattle.proc_collective_steps.specs.Outcomes.{last_from, sent_by, start_by, start_ends, start_outcome, step_ends}
use Rattle.proc_collective_steps.specs.Outcomes.{step_outcome, try_ends}
use Rattle.proc_collective_steps.specs.Parts.{calls_of_all, end_asked, end_behind, first_part, later_by, later_part}
use Rattle.proc_collective_steps.specs.Parts.{part_by, site_of, start_asked}
use Rattle.proc_collective_steps.specs.Tries.{Comes, EndComes, IsPartTried, IsSameCore, context_at, ended_so, first_of, job_at}
use Rattle.proc_collective_steps.specs.Tries.{went_on}
use Rattle.proc_collective_steps.specs.declared.tries.AtThread.{AtThread}
use Rattle.proc_collective_steps.specs.declared.tries.PartTried.{PartTried}
use Rattle.proc_collective_steps.proofs.Going.{Goes, Keeps, events_by}
use Rattle.proc_collective_steps.proofs.Quiet.{NoneExhausted, none_first, step_same}

-- ---- the invariant

-- of each record for which an endpoint stands
pub keeps_of : (meaning : Meaning) (endpoint : EndpointState) (at : AtThread) (node : Node EndpointLocal)
    → EndpointStands endpoint node → Keeps (context_at meaning endpoint at) node
keeps_of meaning endpoint at node stands = record {
  orderly = stands.core.invariant_.orderly;
  own = stands.core.invariant_.own;
  asked = stands.core.invariant_.asked;
  replied = stands.core.invariant_.replied;
  kept = stands.kept;
}

-- the context is the same, where the core is
pub same_context : (meaning : Meaning) (old new : EndpointState) (at : AtThread) → IsSameCore old.core new.core
    → context_at meaning new at ≡ context_at meaning old at
same_context meaning old new at same =
    ap₂ (λ (settings : Parameters) (me : ℕ). record {
      settings = settings;
      table = new.core.table;
      meaning = meaning;
      me = me;
      thread = at.thread;
      now = at.now;
    }) same.settings same.me_is
    ∙ ap (λ (table : List (Option Entry)). record {
      settings = old.core.settings;
      table = table;
      meaning = meaning;
      me = old.core.me;
      thread = at.thread;
      now = at.now;
    }) same.table

pub keeps_then : (meaning : Meaning) (old new : EndpointState) (at : AtThread) (node : Node EndpointLocal)
    → IsSameCore old.core new.core → EndpointStands new node → Keeps (context_at meaning old at) node
keeps_then meaning old new at node same stands =
    subst (λ (here : TryContext). Keeps here node) (same_context meaning old new at same)
    (keeps_of meaning new at node stands)

-- ---- one call of the collectives

pub one_part : {Told : Type 0} (says : Told → ScriptAnswer) (at : TryContext) (node : Node EndpointLocal)
    (it : CollectivesState) (outcome : Outcome Told) (told : Told) (last : Option Answer) (sent : Option SlotRef)
    (next : CollectivesState) (new : EndpointState) → Comes (site_of at) node outcome told last next new
    → sent ≡ sent_by last
    → Goes at node outcome.calls (option_to_list (sent_by (last_from (site_of at) None node outcome.calls)))
    → IsPartTried at node (part_by says outcome) it
    (record { sent = sent; ended = Some (says told); moved = true }) next new
one_part {Told} says at node it outcome told last sent next new C sent_is G = record {
  stands = subst (EndpointStands new) G.leaves C.stands;
  slots_are = ap option_to_list sent_is
      ∙ (ap (λ (o : Option Answer). option_to_list (sent_by o)) C.last_is ∙ G.slots_are);
  well = G.well;
  ended = ap (λ (t : Told). Some (says t)) C.answered;
  moved = refl;
  next_is = ap Some C.next_is;
}

pub end_tried : (at : TryContext) (node : Node EndpointLocal) (it : CollectivesState) (outcome : Outcome EndAnswer)
    (told : EndAnswer) (next : CollectivesState) (new : EndpointState)
    → EndComes (site_of at) node outcome told next new → Goes at node outcome.calls []
    → IsPartTried at node (part_by (λ one. said.End one) outcome) it
    (record { sent = None; ended = Some (said.End told); moved = true }) next new
end_tried at node it outcome told next new C G = record {
  stands = subst (EndpointStands new) G.leaves C.stands;
  slots_are = G.slots_are;
  well = G.well;
  ended = ap (λ (t : EndAnswer). Some (said.End t)) C.answered;
  moved = refl;
  next_is = ap Some C.next_is;
}

-- ---- the start of a whole collective

-- a start that doesn't start leaves all
start_kept : (site : Site) (node : Node EndpointLocal) (it : CollectivesState) (asked : StartAsked)
    → let outcome = start_outcome site node it asked in
    is_started outcome.answer ≡ false → outcome.next ≡ it
start_kept site node it asked =
    by_refusal (start_refusal it.area it.settings.segment (progress_of it) asked.shape asked.from)
  where
    by_answer : (answer : StartAnswer) → is_started answer ≡ false → started_then answer it asked.shape ≡ it
    by_answer starts.Started e = absurd (true≢false e)
    by_answer starts.Busy e = refl
    by_answer (starts.BadArg argument) e = refl
    by_answer starts.Exhausted e = refl
    by_answer (starts.Forbidden why) e = refl
    by_answer (starts.LockBusy lock) e = refl
    by_answer starts.NoMemory e = refl

    by_refusal : (refusal : Option StartAnswer)
        → let outcome = start_by site node it asked refusal in
        is_started outcome.answer ≡ false → outcome.next ≡ it
    by_refusal (Some first) e = refl
    by_refusal None e = by_answer (start_told (Some (answer_at site node (start_call it asked)))) e

pub first_parted : (at : TryContext) (node : Node EndpointLocal) (it : CollectivesState) (shape : Shape) (from : ℕ)
    (told : StartAnswer) (last : Option Answer) (next : CollectivesState) (new : EndpointState)
    → let outcome = start_outcome (site_of at) node it (start_asked at shape from) in
    Comes (site_of at) node outcome told last next new
    → Goes at node outcome.calls (option_to_list (sent_by (last_from (site_of at) None node outcome.calls)))
    → IsPartTried at node (first_part at shape from node it) it (record {
      sent = sent_by last;
      ended = option_map (λ one. said.Start one) (start_ends told);
      moved = is_started told;
    }) next new
first_parted at node it shape from told last next new C G = record {
  stands = subst (EndpointStands new) G.leaves C.stands;
  slots_are = ap (λ (o : Option Answer). option_to_list (sent_by o)) C.last_is ∙ G.slots_are;
  well = G.well;
  ended = ap (λ (t : StartAnswer). option_map (λ one. said.Start one) (start_ends t)) C.answered;
  moved = ap is_started C.answered ∙ there (is_started outcome.answer);
  next_is = ap Some C.next_is ∙ changed (is_started outcome.answer) refl;
}
  where
    outcome : Outcome StartAnswer
    outcome = start_outcome (site_of at) node it (start_asked at shape from)

    there : (b : Bool) → b ≡ is_some (cond {A = Option CollectivesState} b (Some outcome.next) None)
    there true = refl
    there false = refl

    changed : (b : Bool) → is_started outcome.answer ≡ b
        → Some outcome.next ≡ option_or (cond {A = Option CollectivesState} b (Some outcome.next) None) (Some it)
    changed true is = refl
    changed false is = ap Some (start_kept (site_of at) node it (start_asked at shape from) is)

-- the answer of its call
pub first_answered : (at : TryContext) (node : Node EndpointLocal) (it : CollectivesState) (shape : Shape) (from : ℕ)
    → let outcome = start_outcome (site_of at) node it (start_asked at shape from) in
    last_from (site_of at) None node outcome.calls ≡ first_of at (first_part at shape from node it) node
first_answered at node it shape from =
    by_refusal (start_refusal it.area it.settings.segment (progress_of it) shape from)
  where
    by_refusal : (refusal : Option StartAnswer)
        → let outcome = start_by (site_of at) node it (start_asked at shape from) refusal in
        last_from (site_of at) None node outcome.calls
        ≡ first_of at (record { calls = calls_of_all outcome.calls; ended = None; next = None }) node
    by_refusal (Some first) = refl
    by_refusal None = refl

-- ---- two lists of calls, the second behind the first

end_both : (site : Site) (node : Node EndpointLocal) (first second : List CallerCall)
    → node_in_the_end site node (first ++ second) ≡ node_in_the_end site (node_in_the_end site node first) second
end_both site node [] second = refl
end_both site node (call ∷ first) second = end_both site (node_then site node call) first second

run_both : (at : TryContext) (first second : List RecordEvent) (node : Node EndpointLocal)
    → node_run (job_at at) at.me at.now (first ++ second) node
    ≡ node_run (job_at at) at.me at.now second (node_run (job_at at) at.me at.now first node)
run_both at [] second node = refl
run_both at (event ∷ first) second node = run_both at first second (node_after (job_at at) at.me node at.now event)

sends_both : (at : TryContext) (first second : List RecordEvent) (node : Node EndpointLocal)
    → node_sends (job_at at) at.me at.now (first ++ second) node
    ≡ node_sends (job_at at) at.me at.now first node
    ++ node_sends (job_at at) at.me at.now second (node_run (job_at at) at.me at.now first node)
sends_both at [] second node = refl
sends_both at (event ∷ first) second node =
    let after = node_after (job_at at) at.me node at.now event in
    ap (λ (later : List Packet). packets_of (job_at at) at.me node at.now event ++ later)
    (sends_both at first second after)
    ∙ sym (append_assoc (packets_of (job_at at) at.me node at.now event)
    (node_sends (job_at at) at.me at.now first after)
    (node_sends (job_at at) at.me at.now second (node_run (job_at at) at.me at.now first after)))

well_both : (at : TryContext) (first second : List RecordEvent) (node : Node EndpointLocal)
    → StaysWell (job_at at) (IsEndpointKept at.settings) at.me at.now first node
    → StaysWell (job_at at) (IsEndpointKept at.settings) at.me at.now second
    (node_run (job_at at) at.me at.now first node)
    → StaysWell (job_at at) (IsEndpointKept at.settings) at.me at.now (first ++ second) node
well_both at [] second node well later = later
well_both at (event ∷ first) second node well later =
    (well.0, well_both at first second (node_after (job_at at) at.me node at.now event) well.1 later)

-- the events of both
events_both : (at : TryContext) (first second : List CallerCall)
    → events_by at (first ++ second) ≡ events_by at first ++ events_by at second
events_both at [] second = refl
events_both at (call ∷ first) second =
    ap (λ (es : List RecordEvent). node_event at.thread call.call ∷ es) (events_both at first second)

-- behind calls that may send, others that don't
pub goes_both : (at : TryContext) (node : Node EndpointLocal) (first second : List CallerCall) (slots : List SlotRef)
    → Goes at node first slots → Goes at (node_in_the_end (site_of at) node first) second []
    → Goes at node (first ++ second) slots
goes_both at node first second slots A B =
    let between = node_in_the_end (site_of at) node first in
    let ran = node_run (job_at at) at.me at.now (events_by at first) node in
    let later = subst (λ (n : Node EndpointLocal). Goes at n second []) A.leaves B in
    let sent = node_sends (job_at at) at.me at.now (events_by at first) node in
    record {
      leaves = end_both (site_of at) node first second
          ∙ (ap (λ (n : Node EndpointLocal). node_in_the_end (site_of at) n second) A.leaves
          ∙ (later.leaves
          ∙ (sym (run_both at (events_by at first) (events_by at second) node)
          ∙ ap (λ (es : List RecordEvent). node_run (job_at at) at.me at.now es node)
          (sym (events_both at first second)))));
      slots_are = A.slots_are
          ∙ (sym (append-nil (map slot_of_packet sent))
          ∙ (ap (λ (more : List SlotRef). map slot_of_packet sent ++ more) later.slots_are
          ∙ (sym (map-append slot_of_packet sent
          (node_sends (job_at at) at.me at.now (events_by at second) ran))
          ∙ (ap (map slot_of_packet) (sym (sends_both at (events_by at first) (events_by at second) node))
          ∙ ap (λ (es : List RecordEvent). map slot_of_packet (node_sends (job_at at) at.me at.now es node))
          (sym (events_both at first second))))));
      well = subst (λ (es : List RecordEvent).
          StaysWell (job_at at) (IsEndpointKept at.settings) at.me at.now es node)
          (sym (events_both at first second))
          (well_both at (events_by at first) (events_by at second) node A.well later.well);
    }

-- ---- a later try of a whole collective

-- the step ends it
pub step_ended : (at : TryContext) (node : Node EndpointLocal) (it : CollectivesState) (dest : ℕ) (told end : StepAnswer)
    (last : Option Answer) (next : CollectivesState) (new : EndpointState)
    → let outcome = step_outcome (site_of at) at.thread node it in
    Comes (site_of at) node outcome told last next new
    → Goes at node outcome.calls (option_to_list (sent_by (last_from (site_of at) None node outcome.calls)))
    → step_ends told ≡ Some end
    → IsPartTried at node (later_part at dest node it) it
    (record { sent = sent_by last; ended = Some (said.Step end); moved = true }) next new
step_ended at node it dest told end last next new C G is =
    let outcome = step_outcome (site_of at) at.thread node it in
    subst (λ (o : Option StepAnswer). IsPartTried at node (later_by at dest node it outcome o) it
    (record { sent = sent_by last; ended = Some (said.Step end); moved = true }) next new)
    (sym is ∙ ap step_ends C.answered)
    (record {
      stands = subst (EndpointStands new) G.leaves C.stands;
      slots_are = ap (λ (o : Option Answer). option_to_list (sent_by o)) C.last_is ∙ G.slots_are;
      well = G.well;
      ended = refl;
      moved = refl;
      next_is = ap Some C.next_is;
    })

-- no node is known to be exhausted
none_exhausted : (it : CollectivesState) → exhausted_node it.area it.me (progress_of it) ≡ None → NoneExhausted it it.area.nodes
none_exhausted it none node low =
    let high : node < 0 + it.area.nodes = omega (arith, low) in
    none_first (has_exhausted it.me (progress_of it)) 0 it.area.nodes node none (omega arith) high

unexhausted_is : (it : CollectivesState) → is_unexhausted it ≡ true → exhausted_node it.area it.me (progress_of it) ≡ None
unexhausted_is it = go (exhausted_node it.area it.me (progress_of it))
  where
    go : (o : Option ℕ) → is_none o ≡ true → o ≡ None
    go None e = refl
    go (Some node) e = absurd (true≢false (sym e))

-- a try that isn't ready leaves the collectives, and knows no node to be exhausted
record IsUnready (it next : CollectivesState) : Type 0 where
  pub same : next ≡ it
  pub none : exhausted_node it.area it.me (progress_of it) ≡ None

abbrev ready_says : Option ℕ → EndAnswer
ready_says other = elim other [ Some node ↦ ends.Mismatch node | None ↦ ends.Ended ]

abbrev unready_says : Option ℕ → EndAnswer
unready_says exhausted = elim exhausted [ Some node ↦ ends.Exhausted node | None ↦ ends.NotReady ]

told_unready : (it : CollectivesState) (segment : List ℕ) (poll : Answer)
    → try_ends (end_told it segment poll) ≡ None → exhausted_node it.area it.me (progress_of it) ≡ None
told_unready it segment (answers.Forbidden why) e = absurd (none-some (ends.Forbidden why) (sym e))
told_unready it segment _ e = by_ready (is_ready it.area it.me (progress_of it) segment) e
  where
    by_other : (other : Option ℕ) → try_ends (ready_says other) ≡ None → ⊥
    by_other (Some node) h = none-some (ends.Mismatch node) (sym h)
    by_other None h = none-some ends.Ended (sym h)

    by_exhausted : (exhausted : Option ℕ) → try_ends (unready_says exhausted) ≡ None → exhausted ≡ None
    by_exhausted (Some node) h = absurd (none-some (ends.Exhausted node) (sym h))
    by_exhausted None h = refl

    by_ready : (ready : Bool)
        → try_ends (cond {A = EndAnswer} ready (ready_says (other_shape it.area (progress_of it) segment))
        (unready_says (exhausted_node it.area it.me (progress_of it)))) ≡ None
        → exhausted_node it.area it.me (progress_of it) ≡ None
    by_ready true h = absurd (by_other (other_shape it.area (progress_of it) segment) h)
    by_ready false h = by_exhausted (exhausted_node it.area it.me (progress_of it)) h

kept_unready : (it : CollectivesState) (answer : EndAnswer) → try_ends answer ≡ None → ended_then answer it ≡ it
kept_unready it ends.NotReady e = refl
kept_unready it ends.Ended e = absurd (none-some ends.Ended (sym e))
kept_unready it (ends.Mismatch other) e = absurd (none-some (ends.Mismatch other) (sym e))
kept_unready it ends.NotStarted e = absurd (none-some ends.NotStarted (sym e))
kept_unready it (ends.BadArg argument) e = absurd (none-some (ends.BadArg argument) (sym e))
kept_unready it (ends.Exhausted other) e = absurd (none-some (ends.Exhausted other) (sym e))
kept_unready it (ends.Forbidden why) e = absurd (none-some (ends.Forbidden why) (sym e))
kept_unready it ends.NoMemory e = absurd (none-some ends.NoMemory (sym e))

refused_ends : (it : CollectivesState) (dest : ℕ) (refusal : EndAnswer)
    → end_refusal it.area it.settings.segment it.me (progress_of it) dest ≡ Some refusal
    → try_ends refusal ≡ None → ⊥
refused_ends it dest refusal is e =
    by_open (is_open (progress_of it)) (is_bad_dest it.area it.settings.segment it.me it.shape dest) is
  where
    says : (first : EndAnswer) → Some first ≡ Some refusal → (None ≡ try_ends first → ⊥) → ⊥
    says first same never = never (sym (ap try_ends (same_Some first refusal same) ∙ e))

    by_open : (open_ bad : Bool)
        → cond {A = Option EndAnswer} (not open_) (Some ends.NotStarted)
        (cond bad (Some (ends.BadArg arguments.Destination)) None) ≡ Some refusal → ⊥
    by_open false bad h = says ends.NotStarted h (none-some ends.NotStarted)
    by_open true true h =
        says (ends.BadArg arguments.Destination) h (none-some (ends.BadArg arguments.Destination))
    by_open true false h = none-some refusal h

end_unready : (site : Site) (node : Node EndpointLocal) (it : CollectivesState) (asked : EndAsked)
    → let outcome = end_outcome site node it asked in
    try_ends outcome.answer ≡ None → IsUnready it outcome.next
end_unready site node it asked =
    by_refusal (end_refusal it.area it.settings.segment it.me (progress_of it) asked.dest) refl
  where
    by_refusal : (refusal : Option EndAnswer)
        → end_refusal it.area it.settings.segment it.me (progress_of it) asked.dest ≡ refusal
        → let outcome = end_by site node it asked refusal in
        try_ends outcome.answer ≡ None → IsUnready it outcome.next
    by_refusal (Some first) is e = absurd (refused_ends it asked.dest first is e)
    by_refusal None is e = record {
      same = kept_unready it (tried_answer site node it asked.thread) e;
      none = told_unready it (segment_in site node) (answer_at site node (poll_call asked.thread)) e;
    }

both_true : (a b : Bool) → (a && b) ≡ true → (a ≡ true) × (b ≡ true)
both_true true true e = (refl, refl)
both_true true false e = absurd (true≢false (sym e))
both_true false b e = absurd (true≢false (sym e))

-- a try without effect
quiet_leaves : (at : TryContext) (node : Node EndpointLocal) (it : CollectivesState) (dest : ℕ) → Stands it
    → let step = step_outcome (site_of at) at.thread node it in
    let try = end_behind at dest node step in
    step.next.area ≡ it.area → try_ends try.answer ≡ None → is_quiet it step.answer ≡ true → try.next ≡ it
quiet_leaves at node it dest stands area_is not_ready quiet =
    let step = step_outcome (site_of at) at.thread node it in
    let U = end_unready (site_of at) (node_in_the_end (site_of at) node step.calls) step.next (end_asked at dest)
    not_ready in
    let parts = both_true (is_nothing step.answer) (is_unexhausted it) quiet in
    let after : NoneExhausted step.next it.area.nodes =
    subst (λ (area : Area). NoneExhausted step.next area.nodes) area_is (none_exhausted step.next U.none) in
    U.same ∙ step_same (site_of at) at.thread node it (omega (arith, stands.nodes, stands.few_nodes, stands.exhausted_long))
    (none_exhausted it (unexhausted_is it parts.1)) parts.0 after

-- ---- how a later try is told

abbrev says_end : Option EndAnswer → Option ScriptAnswer
says_end end = option_map (λ one. said.End one) end

ends_are : (sent : Option SlotRef) (quiet : Bool) (end : Option EndAnswer) → (ended_so sent quiet end).ended ≡ says_end end
ends_are sent quiet None = refl
ends_are sent quiet (Some end) = refl

sent_are : (sent : Option SlotRef) (quiet : Bool) (end : Option EndAnswer) → (ended_so sent quiet end).sent ≡ sent
sent_are sent quiet None = refl
sent_are sent quiet (Some end) = refl

abbrev moves_to : (quiet : Bool) → Option EndAnswer → CollectivesState → Option CollectivesState
moves_to quiet end next = cond {A = Option CollectivesState} (is_none end && quiet) None (Some next)

moved_are : (sent : Option SlotRef) (quiet : Bool) (end : Option EndAnswer) (next : CollectivesState)
    → (ended_so sent quiet end).moved ≡ is_some (moves_to quiet end next)
moved_are sent quiet (Some end) next = refl
moved_are sent true None next = refl
moved_are sent false None next = refl

next_are : (quiet : Bool) (end : Option EndAnswer) (it next found : CollectivesState) → found ≡ next
    → (end ≡ None → quiet ≡ true → next ≡ it) → Some found ≡ option_or (moves_to quiet end next) (Some it)
next_are quiet (Some end) it next found is still = ap Some is
next_are true None it next found is still = ap Some (is ∙ still refl refl)
next_are false None it next found is still = ap Some is

pub ended_later : (at : TryContext) (node : Node EndpointLocal) (it : CollectivesState) (dest : ℕ) (told : StepAnswer)
    (last : Option Answer) (between : CollectivesState) (mid : EndpointState) (answer : EndAnswer)
    (next : CollectivesState) (new : EndpointState) → Stands it → IsSameNode it between
    → let step = step_outcome (site_of at) at.thread node it in
    let behind = node_in_the_end (site_of at) node step.calls in
    Comes (site_of at) node step told last between mid
    → Goes at node step.calls (option_to_list (sent_by (last_from (site_of at) None node step.calls)))
    → EndComes (site_of at) behind (end_outcome (site_of at) behind between (end_asked at dest)) answer next new
    → Goes at behind (end_outcome (site_of at) behind between (end_asked at dest)).calls []
    → step_ends told ≡ None
    → IsPartTried at node (later_part at dest node it) it
    (went_on (sent_by last) (is_nothing told && is_unexhausted it) answer) next new
ended_later at node it dest told last between mid answer next new stands same S G ends H none =
    let site = site_of at in
    let step = step_outcome site at.thread node it in
    let behind = node_in_the_end site node step.calls in
    let try = end_behind at dest node step in
    let sent = sent_by last in
    let quiet = is_quiet it step.answer in
    let end = try_ends try.answer in
    let E = subst (λ (one : CollectivesState).
    EndComes site behind (end_outcome site behind one (end_asked at dest)) answer next new) S.next_is ends in
    let both = goes_both at node step.calls try.calls
    (option_to_list (sent_by (last_from site None node step.calls))) G
    (subst (λ (one : CollectivesState). Goes at behind (end_outcome site behind one (end_asked at dest)).calls [])
    S.next_is H) in
    let area_is : step.next.area ≡ it.area =
    ap (λ (one : CollectivesState). one.area) (sym S.next_is) ∙ same.area_is in
    subst (λ (o : Option StepAnswer). IsPartTried at node (later_by at dest node it step o) it
    (went_on sent (is_nothing told && is_unexhausted it) answer) next new) (sym none ∙ ap step_ends S.answered)
    (subst (λ (says : StepAnswer). IsPartTried at node (later_by at dest node it step None) it
    (went_on sent (is_nothing says && is_unexhausted it) answer) next new) (sym S.answered)
    (subst (λ (says : EndAnswer). IsPartTried at node (later_by at dest node it step None) it
    (went_on sent quiet says) next new) (sym E.answered)
    (record {
      stands = subst (EndpointStands new)
          (sym (end_both site node step.calls try.calls) ∙ both.leaves) E.stands;
      slots_are = ap option_to_list (sent_are sent quiet end)
          ∙ (ap (λ (o : Option Answer). option_to_list (sent_by o)) S.last_is ∙ both.slots_are);
      well = both.well;
      ended = ends_are sent quiet end;
      moved = moved_are sent quiet end try.next;
      next_is = next_are quiet end it try.next next E.next_is (λ unready still.
          quiet_leaves at node it dest stands area_is unready still);
    })))

-- ---- a start that begins the collective makes a call

same_first : (one first : StartAnswer) → Some one ≡ Some first → is_started one ≡ false → is_started first ≡ false
same_first one first same none = ap is_started (sym (same_Some one first same)) ∙ none

-- a refusal doesn't start
refusal_starts : (busy root length_ source exhausted : Bool) (first : StartAnswer)
    → cond {A = Option StartAnswer} busy (Some starts.Busy)
    (cond root (Some (starts.BadArg arguments.Root))
    (cond length_ (Some (starts.BadArg arguments.Length))
    (cond source (Some (starts.BadArg arguments.Source)) (cond exhausted (Some starts.Exhausted) None)))) ≡ Some first
    → is_started first ≡ false
refusal_starts true root length_ source exhausted first same = same_first starts.Busy first same refl
refusal_starts false true length_ source exhausted first same = same_first (starts.BadArg arguments.Root) first same refl
refusal_starts false false true source exhausted first same = same_first (starts.BadArg arguments.Length) first same refl
refusal_starts false false false true exhausted first same = same_first (starts.BadArg arguments.Source) first same refl
refusal_starts false false false false true first same = same_first starts.Exhausted first same refl
refusal_starts false false false false false first same = absurd (none-some first same)

pub first_there : (at : TryContext) (node : Node EndpointLocal) (it : CollectivesState) (shape : Shape) (from : ℕ)
    → let part = first_part at shape from node it in
    (is_none part.ended && is_some part.next) ≡ true
    → (call : ThreadCall) × (slice_get part.calls 0 ≡ Some call)
first_there at node it shape from =
    by_refusal (start_refusal it.area it.settings.segment (progress_of it) shape from) refl
  where
    asked : StartAsked
    asked = start_asked at shape from

    moved_is : (ended : Bool) (answer : StartAnswer) (next : CollectivesState)
        → (ended && is_some (cond {A = Option CollectivesState} (is_started answer) (Some next) None)) ≡ true
        → is_started answer ≡ true
    moved_is true answer next e = go (is_started answer) e
      where
        go : (b : Bool) → is_some (cond {A = Option CollectivesState} b (Some next) None) ≡ true → b ≡ true
        go true h = refl
        go false h = absurd (true≢false (sym h))
    moved_is false answer next e = absurd (true≢false (sym e))

    Begins : Option StartAnswer → Type 0
    Begins refusal =
        let outcome = start_by (site_of at) node it asked refusal in
        (is_none (option_map (λ one. said.Start one) (start_ends outcome.answer))
        && is_some (cond {A = Option CollectivesState} (is_started outcome.answer) (Some outcome.next) None)) ≡ true
        → (call : ThreadCall) × (slice_get (calls_of_all outcome.calls) 0 ≡ Some call)

    by_refusal : (refusal : Option StartAnswer)
        → start_refusal it.area it.settings.segment (progress_of it) shape from ≡ refusal → Begins refusal
    by_refusal (Some first) is begins =
        absurd (true≢false (sym (moved_is _ first it begins) ∙ refusal_starts (is_open (progress_of it)) _ _ _ _ first is))
    by_refusal None is begins = (_, refl)

-- ---- what was told, by what functions told

pub tried_as : (at : TryContext) (node : Node EndpointLocal) (part : Part) (it : CollectivesState)
    (sent told_sent : Option SlotRef) (ended told_ended : Option ScriptAnswer) (moved told_moved : Bool)
    (next : CollectivesState) (new : EndpointState) → told_sent ≡ sent → told_ended ≡ ended → told_moved ≡ moved
    → IsPartTried at node part it (record { sent = sent; ended = ended; moved = moved }) next new
    → IsPartTried at node part it (record { sent = told_sent; ended = told_ended; moved = told_moved }) next new
tried_as at node part it sent told_sent ended told_ended moved told_moved next new a b d tried =
    subst (λ (s : Option SlotRef).
    IsPartTried at node part it (record { sent = s; ended = told_ended; moved = told_moved }) next new) (sym a)
    (subst (λ (e : Option ScriptAnswer).
    IsPartTried at node part it (record { sent = sent; ended = e; moved = told_moved }) next new) (sym b)
    (subst (λ (m : Bool). IsPartTried at node part it (record { sent = sent; ended = ended; moved = m }) next new)
    (sym d) tried))

pub went_as : (at : TryContext) (node : Node EndpointLocal) (part : Part) (it : CollectivesState) (told : PartTried)
    (sent told_sent : Option SlotRef) (quiet unexhausted known : Bool) (says : StepAnswer) (answer : EndAnswer)
    (next : CollectivesState) (new : EndpointState) → told ≡ went_on told_sent quiet answer → told_sent ≡ sent
    → quiet ≡ (is_nothing says && unexhausted) → unexhausted ≡ known
    → IsPartTried at node part it (went_on sent (is_nothing says && known) answer) next new
    → IsPartTried at node part it told next new
went_as at node part it told sent told_sent quiet unexhausted known says answer next new a b d e tried =
    subst (λ (t : PartTried). IsPartTried at node part it t next new) (sym a)
    (subst (λ (s : Option SlotRef). IsPartTried at node part it (went_on s quiet answer) next new) (sym b)
    (subst (λ (q : Bool). IsPartTried at node part it (went_on sent q answer) next new)
    (sym (d ∙ ap (λ (u : Bool). is_nothing says && u) e)) tried))
