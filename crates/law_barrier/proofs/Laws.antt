-- The law of the barrier over every run.
use Rattle.std.proofs.Common.{◌≡◌, ◌⊎◌, ℕ, ◌<◌, List, [], ◌∷◌, Option, Some, None, Result, Ok, Err, inl, inr, ◌≢◌}
use Rattle.std.proofs.Common.{◌↔◌, ◌++◌, ◌+◌, true, eq-eqb, ne_eqb, refl, sym, ap, ◌∙◌, subst, arith}
use Rattle.std.specs.Prelude.{slice_get}
use Rattle.std.proofs.lemmas.Bool.{cases_eq}
use Rattle.std.proofs.lemmas.List.{append-nil, append_assoc}
use Rattle.base_lists.specs.Put.{put}
use Rattle.base_lists.proofs.Put.{put_same, put_other}
use Rattle.base_lists.specs.Numbered.{element_at}
use Rattle.wire_message.specs.Parameters.{Parameters, AreInRange}
use Rattle.part_handlers.specs.declared.table.Entry.{Entry}
use Rattle.part_handlers.specs.declared.rules.Forbidden.{Forbidden}
use Rattle.part_handlers.specs.declared.rules.CallKind.TheVariants as kinds
use Rattle.part_handlers.specs.Runs.{Meaning, IsLawfulMeaning}
use Rattle.spec_node.specs.Record.{Request, Run, Node}
use Rattle.spec_node.specs.Executed.{run_of}
use Rattle.spec_node.specs.NodeStep.{OfCall, call_outcome}
use Rattle.spec_network.specs.World.{Event, Asks, Does, RequestComes, ReplyComes, Ticks, EventAt, WorldAnswer, OfNode}
use Rattle.spec_network.specs.World.{IsAmong, request_event, reply_event, after_at, world_answer, world_after, run}
use Rattle.spec_network.specs.World.{answers_of}
use Rattle.part_barrier.specs.declared.answer.BarrierAnswer.{BarrierAnswer}
use Rattle.part_barrier.specs.declared.answer.BarrierAnswer.TheVariants as tried
use Rattle.part_barrier.specs.Record.{try_answer}
use Rattle.part_barrier.specs.World.{Barriers, TryTells, EndedByAll, AreCovered, AllNotified, IsOtherTry}
use Rattle.part_barrier.specs.World.{is_mismatch, notifies_of}
use Rattle.part_barrier.specs.declared.known.Combination.{Combination}
use Rattle.part_barrier.specs.declared.known.Notify.{Notify}
use Rattle.part_barrier.proofs.Combining.{all_of-same}
use Rattle.part_barrier.proofs.Runs.{try_tells, are_covered}
use Rattle.part_barrier.proofs.Phases.{ended_by_all}
use Rattle.node_rules.specs.EndpointLocal.{EndpointLocal}
use Rattle.node_rules.specs.BarrierCalls.{identifier, exhausted_for}
use Rattle.node_rules.specs.EndpointRules.{OtherCall, Records, at_the_opening, endpoint_rules, unless_forbidden}
use Rattle.node_rules.specs.EndpointRules.{job_of}
use Rattle.node_rules.specs.declared.answer.Answer.{Answer}
use Rattle.node_rules.specs.declared.answer.Answer.TheVariants as answers
use Rattle.law_barrier.specs.BarrierLaws.{barriers_of, present_phase, records_after, AreAmong, BarrierTry, EndsPhase}
use Rattle.law_barrier.specs.BarrierLaws.{TellsOutcome, InEveryBarrierJob, notified_by, ended_by, notifies_in}
use Rattle.law_barrier.specs.BarrierLaws.{ended_in}
use Rattle.law_barrier.proofs.Abreast.{AreHigh, are_high, abreast}
use Rattle.law_barrier.proofs.Alone.{alone_law}
use Rattle.law_barrier.proofs.Steps.{Added, nothing_added}
use Rattle.law_barrier.proofs.Nodes.{NodeSteps, Holds, opening_holds, put_holds}
use Rattle.law_barrier.proofs.Events.{caller_at, call_adds, asks_step, does_step, request_step, reply_step}
use Rattle.law_barrier.proofs.Events.{tick_step}
use Rattle.base_lists.proofs.Appended.{get-append_kept}

-- ---- every event of the world

-- what an event adds to the barrier of a node, by its answer
abbrev adds_by : (node : ℕ) → Event OtherCall → WorldAnswer Answer → Added
adds_by node event answer =
    record { notifies = notified_by node event answer; ended = ended_by node event answer }

-- each barrier has what the event added
record WorldSteps
    (settings : Parameters) (records : Records) (event : Event OtherCall) (answer : WorldAnswer Answer)
    (newer : Records) : Type 0 where
  holds : Holds settings newer
  notifies : (node : ℕ)
      → (barriers_of newer node).notifies ≡ (barriers_of records node).notifies ++ notified_by node event answer
  ended : (node : ℕ) → present_phase newer node ≡ present_phase records node + ended_by node event answer

-- where nothing happens
none_steps : (settings : Parameters) (records : Records) (event : Event OtherCall) (answer : WorldAnswer Answer)
    → Holds settings records → ((other : ℕ) → adds_by other event answer ≡ nothing_added)
    → WorldSteps settings records event answer records
none_steps settings records event answer holds nothing = record {
  holds = holds;
  notifies = λ other. sym (append-nil (barriers_of records other).notifies)
      ∙ ap (λ (added : Added). (barriers_of records other).notifies ++ added.notifies) (sym (nothing other));
  ended = λ other. omega (arith, ap (λ (added : Added). added.ended) (nothing other));
}

-- where one node becomes another
put_steps : (settings : Parameters) (records : Records) (node : ℕ) (added : Added) (newer : Node EndpointLocal)
    (event : Event OtherCall) (answer : WorldAnswer Answer) → Holds settings records
    → NodeSteps settings records node added newer
    → ((other : ℕ) → other ≡ node → adds_by other event answer ≡ added)
    → ((other : ℕ) → other ≢ node → adds_by other event answer ≡ nothing_added)
    → WorldSteps settings records event answer (put records node newer)
put_steps settings records node added newer event answer holds step here elsewhere = record {
  holds = put_holds settings records node added newer holds step;
  notifies = λ other. elim (cases_eq other node) [
    | inl same ↦ ap (λ (any : Node EndpointLocal). any.local.barrier.notifies) (at other same)
        ∙ (step.step.notifies
        ∙ (ap (λ which. (barriers_of records which).notifies ++ added.notifies) (sym same)
        ∙ ap (λ (any : Added). (barriers_of records other).notifies ++ any.notifies) (sym (here other same))))
    | inr apart ↦ ap (λ (any : Node EndpointLocal). any.local.barrier.notifies)
        (put_other records node newer other apart)
        ∙ (sym (append-nil (barriers_of records other).notifies)
        ∙ ap (λ (any : Added). (barriers_of records other).notifies ++ any.notifies) (sym (elsewhere other apart)))
  ];
  ended = λ other. elim (cases_eq other node) [
    | inl same ↦ ap (λ (any : Node EndpointLocal). any.local.barrier.ended) (at other same)
        ∙ (step.step.ended
        ∙ (ap (λ which. (barriers_of records which).ended + added.ended) (sym same)
        ∙ ap (λ (any : Added). (barriers_of records other).ended + any.ended) (sym (here other same))))
    | inr apart ↦ ap (λ (any : Node EndpointLocal). any.local.barrier.ended)
        (put_other records node newer other apart)
        ∙ (plus_none (barriers_of records other).ended
        ∙ ap (λ (any : Added). (barriers_of records other).ended + any.ended) (sym (elsewhere other apart)))
  ];
}
  where
    at : (other : ℕ) → other ≡ node → put records node newer other ≡ newer
    at other same = ap (put records node newer) same ∙ put_same records node newer

    plus_none : (count : ℕ) → count ≡ count + 0
    plus_none count = omega arith

request_steps : (settings : Parameters) (table : List (Option Entry)) (meaning : Meaning) (records : Records)
    (now from to number : ℕ) (request : Option Request) (answer : WorldAnswer Answer)
    → AreInRange settings → IsLawfulMeaning meaning
    → to < settings.nodes → Holds settings records → element_at ((records from).asked to) number ≡ request
    → WorldSteps settings records (RequestComes from to number) answer
    (after_at (job_of settings table meaning) records now (request_event settings from to number request))
request_steps settings table meaning records now from to number None answer range lawful there holds found =
    none_steps settings records (RequestComes from to number) answer holds (λ other. refl)
request_steps settings table meaning records now from to number (Some request) answer range lawful there holds found =
    put_steps settings records to nothing_added _ (RequestComes from to number) answer holds
    (request_step settings table meaning records from to number request range lawful there (holds.nodes from)
    (holds.nodes to) found)
    (λ other same. refl) (λ other apart. refl)

reply_steps : (settings : Parameters) (table : List (Option Entry)) (meaning : Meaning) (records : Records)
    (now from to number : ℕ) (reply : Option Run) (answer : WorldAnswer Answer) → IsLawfulMeaning meaning
    → Holds settings records → run_of number ((records to).ran from) ≡ reply
    → WorldSteps settings records (ReplyComes from to number) answer
    (after_at (job_of settings table meaning) records now (reply_event settings from to reply))
reply_steps settings table meaning records now from to number None answer lawful holds found =
    none_steps settings records (ReplyComes from to number) answer holds (λ other. refl)
reply_steps settings table meaning records now from to number (Some reply) answer lawful holds found =
    put_steps settings records from nothing_added _ (ReplyComes from to number) answer holds
    (reply_step settings table meaning records from to number reply lawful (holds.nodes to) (holds.nodes from) found)
    (λ other same. refl) (λ other apart. refl)

event_steps : (settings : Parameters) (table : List (Option Entry)) (meaning : Meaning) (records : Records)
    (now : ℕ) (event : Event OtherCall) → AreInRange settings → IsLawfulMeaning meaning → IsAmong settings event
    → Holds settings records
    → WorldSteps settings records event
    (world_answer (job_of settings table meaning) records (record { now = now; event = event }))
    (world_after (job_of settings table meaning) records (record { now = now; event = event }))
event_steps settings table meaning records now (Asks node ask) range lawful there holds =
    put_steps settings records node nothing_added _ (Asks node ask) _ holds
    (asks_step settings table meaning records now node ask _ (holds.nodes node) refl)
    (λ other same. refl) (λ other apart. refl)
event_steps settings table meaning records now (Does node thread call) range lawful there holds =
    put_steps settings records node
    (call_adds call (call_outcome (job_of settings table meaning) node (records node) thread call).0) _
    (Does node thread call) _ holds
    (does_step settings table meaning records node thread call there (holds.nodes node))
    (λ other same. rw (eq-eqb node other (sym same)) refl)
    (λ other apart. rw (ne_eqb node other (λ same. apart (sym same))) refl)
event_steps settings table meaning records now (RequestComes from to number) range lawful there holds =
    request_steps settings table meaning records now from to number (element_at ((records from).asked to) number) _ range
    lawful there.1 holds refl
event_steps settings table meaning records now (ReplyComes from to number) range lawful there holds =
    reply_steps settings table meaning records now from to number (run_of number ((records to).ran from)) _ lawful
    holds refl
event_steps settings table meaning records now (Ticks node) range lawful there holds =
    put_steps settings records node nothing_added _ (Ticks node) _ holds
    (tick_step settings table meaning records now node _ range there (holds.nodes node) refl)
    (λ other same. refl) (λ other apart. refl)

-- ---- every run

-- each barrier has what the events added
record RunSteps
    (settings : Parameters) (records : Records) (events : List (EventAt OtherCall)) (given : List (WorldAnswer Answer))
    (newer : Records) : Type 0 where
  holds : Holds settings newer
  notifies : (node : ℕ)
      → (barriers_of newer node).notifies ≡ (barriers_of records node).notifies ++ notifies_in node events given
  ended : (node : ℕ) → present_phase newer node ≡ present_phase records node + ended_in node events given

run_steps : (settings : Parameters) (table : List (Option Entry)) (meaning : Meaning) (events : List (EventAt OtherCall))
    (records : Records) → AreInRange settings → IsLawfulMeaning meaning → AreAmong settings events
    → Holds settings records
    → RunSteps settings records events (answers_of (job_of settings table meaning) events records)
    (run (job_of settings table meaning) events records)
run_steps settings table meaning [] records range lawful among holds = record {
  holds = holds;
  notifies = λ node. sym (append-nil (barriers_of records node).notifies);
  ended = λ node. omega arith;
}
run_steps settings table meaning (timed ∷ events) records range lawful among holds =
    let step = event_steps settings table meaning records timed.now timed.event range lawful among.0 holds in
    let rest = run_steps settings table meaning events (world_after (job_of settings table meaning) records timed) range
    lawful among.1 step.holds in
    let later = λ (node : ℕ). notifies_in node events
    (answers_of (job_of settings table meaning) events (world_after (job_of settings table meaning) records timed)) in
    record {
      holds = rest.holds;
      notifies = λ node. rest.notifies node
          ∙ (ap (λ (before : List Notify). before ++ later node) (step.notifies node)
          ∙ append_assoc (barriers_of records node).notifies _ (later node));
      ended = λ node. omega (arith, rest.ended node, step.ended node);
    }

-- a run of more events goes on from where the first ones ended
run_more : (settings : Parameters) (table : List (Option Entry)) (meaning : Meaning)
    (events later : List (EventAt OtherCall)) (records : Records)
    → run (job_of settings table meaning) (events ++ later) records
    ≡ run (job_of settings table meaning) later (run (job_of settings table meaning) events records)
run_more settings table meaning [] later records = refl
run_more settings table meaning (timed ∷ events) later records =
    run_more settings table meaning events later (world_after (job_of settings table meaning) records timed)

-- where all have notified a phase, more notifies don't change its outcome
same_outcome : (nodes : ℕ) (before after : Barriers) (more : ℕ → List Notify) (phase : ℕ)
    → ((node : ℕ) → (after node).notifies ≡ (before node).notifies ++ more node) → AllNotified nodes before phase
    → is_mismatch nodes after phase ≡ is_mismatch nodes before phase
same_outcome nodes before after more phase grows all =
    ap (λ (combined : Combination). combined.mismatch)
    (all_of-same (notifies_of after phase) (notifies_of before phase) nodes
    (λ node there. let notify = all node there in
    ap (λ notifies. slice_get notifies phase) (grows node)
    ∙ (get-append_kept (before node).notifies (more node) phase notify.0 notify.1 ∙ sym notify.1)))

-- ---- the law

abbrev the_answer : Answer → WorldAnswer Answer
the_answer answer = OfNode (OfCall answer)

-- a try that is answered so was allowed, and that is its answer
allowed : (settings : Parameters) (table : List (Option Entry)) (meaning : Meaning) (thread : ℕ)
    (judged : Result (Unit {0}) Forbidden) (local : EndpointLocal) (says : BarrierAnswer) (left : EndpointLocal)
    (answer : BarrierAnswer)
    → the_answer (unless_forbidden (endpoint_rules settings table meaning) thread judged local
    (answers.Barrier says, left)).0 ≡ the_answer (answers.Barrier answer)
    → says ≡ answer
allowed settings table meaning thread (Ok unit) local says left answer e = cc
allowed settings table meaning thread (Err forbidden) local says left answer e = absurd (cc)

-- what a try tells of barriers whose run is one by themselves
outcome_told : (settings : Parameters) (records : Records) (try : BarrierTry) (answer : BarrierAnswer) (exhausted : Option ℕ)
    → Holds settings records → try.node < settings.nodes → EndsPhase answer
    → try_answer settings.nodes try.node (barriers_of records try.node)
    (record { id = identifier try.id; flags = try.flags; exhausted = exhausted }) ≡ answer
    → TellsOutcome settings records try answer
outcome_told settings records try answer exhausted holds there ends is =
    let law = alone_law TryTells settings.nodes (barriers_of records) try_tells holds.alone try.node
    (record { id = identifier try.id; flags = try.flags; exhausted = exhausted }) there (subst EndsPhase (sym is) ends) in
    record { all = law.0; mismatch = subst (λ (says : BarrierAnswer). IsTold says) is law.1 }
  where
    IsTold : BarrierAnswer → Type 0
    IsTold says = (says ≡ tried.Mismatch)
        ↔ ((is_mismatch settings.nodes (barriers_of records) (present_phase records try.node) ≡ true)
        ⊎ IsOtherTry (barriers_of records try.node) (identifier try.id) try.flags)

pub barrier_holds : InEveryBarrierJob
barrier_holds settings table meaning range lawful = record {
  tells = λ events try answer among there ends told.
      let records = records_after settings table meaning events in
      let local = (records try.node).local in
      let judged = (endpoint_rules settings table meaning).judges try.thread kinds.Barrier local in
      outcome_told settings records try answer
      (exhausted_for (caller_at settings records try.node try.thread) local.barrier) (steps events among).holds there
      ends (allowed settings table meaning try.thread judged local _ _ answer told);
  final = λ events later phase among more all.
      let records = records_after settings table meaning events in
      let rest = run_steps settings table meaning later records range lawful more (steps events among).holds in
      ap (λ (newer : Records). is_mismatch settings.nodes (barriers_of newer) phase)
      (run_more settings table meaning events later (at_the_opening settings))
      ∙ same_outcome settings.nodes (barriers_of records)
      (barriers_of (run (job_of settings table meaning) later records)) _ phase rest.notifies all;
  ended = λ events among.
      alone_law EndedByAll settings.nodes _ ended_by_all (steps events among).holds.alone;
  notifications = λ events among. alone_law AreCovered settings.nodes _ are_covered (steps events among).holds.alone;
  abreast = λ events node other among there other_there.
      let alone = (steps events among).holds.alone in
      abreast settings.nodes (barriers_of (records_after settings table meaning events)) node other
      (alone_law AreHigh settings.nodes _ are_high alone)
      (alone_law EndedByAll settings.nodes _ ended_by_all alone) there other_there;
  notifies = λ events node among. (steps events among).notifies node;
  phases = λ events node among. omega (arith, (steps events among).ended node);
}
  where
    steps : (events : List (EventAt OtherCall)) → AreAmong settings events
        → RunSteps settings (at_the_opening settings) events
        (answers_of (job_of settings table meaning) events (at_the_opening settings))
        (records_after settings table meaning events)
    steps events among =
        run_steps settings table meaning events (at_the_opening settings) range lawful among (opening_holds settings)
