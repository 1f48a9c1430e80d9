-- A start, whatever it is answered: the invariant holds then.
use Rattle.std.proofs.Common.{◌≡◌, ℕ, ◌<◌, List, Option, None, Some, refl, sym, subst}
use Rattle.std.specs.Prelude.{◌≢◌, ◌+◌, ◌%◌, nat_le, nat_lt, not, Bool, true, false, [], ◌∷◌, if◌then◌else◌}
use Rattle.std.proofs.Common.{◌∙◌, arith}
use Rattle.std.proofs.lemmas.Bool.{le-ltb, lt-leb}
use Rattle.base_lists.proofs.Cases.{none_some}
use Rattle.part_handlers.specs.Registered.{entry_at, is_for_requests}
use Rattle.part_handlers.specs.declared.message.Which.TheVariants as which
use Rattle.node_core.specs.ClientRules.{asking_fault, first_bad}
use Rattle.part_collective_area.specs.Area.{IsArea, data_place}
use Rattle.part_collective_area.specs.Served.{HasCollectives, collective_handler}
use Rattle.node_collectives.specs.Progress.{Progress}
use Rattle.part_collective_area.proofs.Places.{part_inside}
use Rattle.law_collectives.proofs.Started.{Accepted}
use Rattle.wire_message.specs.Parameters.{Parameters}
use Rattle.part_handlers.specs.declared.table.Entry.{Entry}
use Rattle.part_handlers.specs.Runs.{Meaning}
use Rattle.spec_node.specs.declared.answer.Asked.{Asked}
use Rattle.spec_node.specs.declared.answer.Asked.TheVariants as asked
use Rattle.spec_node.specs.NodeStep.{OfRequest, site_of}
use Rattle.spec_network.specs.Plain.{plain_of}
use Rattle.spec_network.specs.PlainStep.{AskStep}
use Rattle.spec_network.specs.World.{Asks, OfNode, WorldAnswer, world_after, world_answer}
use Rattle.spec_network.proofs.PlainSteps.{step_plain}
use Rattle.spec_network.proofs.Worlds.{step_keeps}
use Rattle.node_rules.specs.EndpointLocal.{IsEndpointKept}
use Rattle.node_rules.specs.EndpointRules.{Records, job_of, timed_event}
use Rattle.node_rules.specs.declared.answer.Answer.{Answer}
use Rattle.law_transfers.specs.Chunks.{EndpointJob}
use Rattle.part_collective_area.specs.declared.shape.Shape.{Shape}
use Rattle.part_collective_area.specs.Area.{Area}
use Rattle.part_collective_area.specs.Served.{ServesCollectives}
use Rattle.node_collectives.specs.Progress.{start_answer, start_ask, start_refusal}
use Rattle.law_collectives.specs.Groups.{Group, asked_in, does_start, started_group}
use Rattle.law_collectives.specs.Invariant.{GroupHolds}
use Rattle.law_collectives.proofs.Quiet.{with_records}
use Rattle.law_collectives.proofs.Events.{Setting}
use Rattle.law_collectives.proofs.Starting.{ask_still}
use Rattle.law_collectives.proofs.Started.{accepted, started_kept}
use Rattle.law_collectives.proofs.Stepped.{asks_step}
use Rattle.node_collectives.specs.declared.answers.StartAnswer.{StartAnswer}

-- what a start leaves that passes its refusals, where its call was answered so
abbrev starts : EndpointJob → Area → Group → (now node thread : ℕ) → Shape → (from : ℕ) → WorldAnswer Answer
    → StartAnswer × Group
starts job area group now node thread shape from told =
    let event = timed_event now (Asks node (start_ask area node thread (group.progress node) shape from)) in
    let answer = start_answer (asked_in told) in
    (answer, started_group job group node shape from answer (world_after job group.records event))

-- where its first refusal is this one
abbrev starts_by : EndpointJob → Area → Group → (now node thread : ℕ) → Shape → (from : ℕ) → Option StartAnswer
    → StartAnswer × Group
starts_by job area group now node thread shape from refusal =
    elim refusal [
      | Some told ↦ (told, group)
      | None ↦ (
          let event = timed_event now (Asks node (start_ask area node thread (group.progress node) shape from)) in
          let answer = start_answer (asked_in (world_answer job group.records event)) in
          (answer, started_group job group node shape from answer (world_after job group.records event)))
    ]

-- a request that has nothing wrong
fault_none : (node handler count payload source offset : Bool) → node ≡ false → handler ≡ true → count ≡ false
    → payload ≡ false → source ≡ false → offset ≡ false
    → (if node then Some which.Node
    else first_bad ((not handler, which.Handler) ∷ (count, which.Count) ∷ (payload, which.Payload)
    ∷ (source, which.Source) ∷ (offset, which.Offset) ∷ []))
    ≡ None
fault_none node handler count payload source offset node_is handler_is count_is payload_is source_is offset_is =
    rw node_is (rw handler_is (rw count_is (rw payload_is (rw source_is (rw offset_is refl)))))

-- nothing is wrong with the call of a start that passes its refusals
pub no_fault : (settings : Parameters) (table : List (Option Entry)) (area : Area) (node thread : ℕ) (progress : Progress)
    (shape : Shape) (from : ℕ) → HasCollectives table → IsArea settings.segment area → area.nodes ≡ settings.nodes
    → node < settings.nodes → Accepted area settings.segment progress shape from
    → (if nat_le settings.nodes node then Some which.Node
    else asking_fault settings table (start_ask area node thread progress shape from).what)
    ≡ None
no_fault settings table area node thread progress shape from registered good nodes there it =
    let inside = part_inside area (progress.started % 2) node (omega arith) (omega (arith, nodes, there)) in
    let whole = good.inside in
    let small = good.small in
    let few = it.few in
    let source = it.inside in
    fault_none (nat_le settings.nodes node) (is_for_requests (entry_at table collective_handler)) (nat_lt 16 4)
    (nat_lt 8192 shape.len) (nat_lt settings.segment (from + shape.len))
    (nat_lt settings.segment (data_place area (progress.started % 2) node + shape.len))
    (lt-leb settings.nodes node there) registered refl
    (le-ltb 8192 shape.len (omega (arith, few, small)))
    (le-ltb settings.segment (from + shape.len) source)
    (le-ltb settings.segment (data_place area (progress.started % 2) node + shape.len)
    (omega (arith, inside, whole, few)))

record StartCall (settings : Parameters) (table : List (Option Entry)) (meaning : Meaning) (area : Area)
    (group : Group) (node thread : ℕ) (shape : Shape) (from : ℕ) : Type 0 where
  setting : Setting settings table meaning area
  serves : ServesCollectives meaning
  holds : GroupHolds (job_of settings table meaning) area group
  there : node < settings.nodes
  passes : start_refusal area settings.segment (group.progress node) shape from ≡ None

abbrev start_then : EndpointJob → Area → Group → (now node thread : ℕ) → Shape → (from : ℕ) → Records
start_then job area group now node thread shape from =
    world_after job group.records (timed_event now (Asks node (start_ask area node thread (group.progress node) shape from)))

start_still : (settings : Parameters) (table : List (Option Entry)) (meaning : Meaning) (area : Area) (group : Group)
    (now node thread : ℕ) (shape : Shape) (from : ℕ)
    → StartCall settings table meaning area group node thread shape from → (said : Asked)
    → AskStep (site_of (job_of settings table meaning) node) (plain_of group.records)
    (start_ask area node thread (group.progress node) shape from) said
    (plain_of (start_then (job_of settings table meaning) area group now node thread shape from))
    → said ≢ asked.Ran → ((to slot number : ℕ) → said ≢ asked.Accepted to slot number)
    → GroupHolds (job_of settings table meaning) area
    (with_records group (start_then (job_of settings table meaning) area group now node thread shape from))
start_still settings table meaning area group now node thread shape from it said step ran accepted_no =
    let job = job_of settings table meaning in
    let ask = start_ask area node thread (group.progress node) shape from in
    ask_still settings table meaning area group (start_then job area group now node thread shape from) node ask said
    it.setting it.holds
    (step_keeps job (IsEndpointKept settings) group.records (timed_event now (Asks node ask)) it.setting.sound
    it.holds.records it.there) step ran accepted_no

start_by : (settings : Parameters) (table : List (Option Entry)) (meaning : Meaning) (area : Area) (group : Group)
    (now node thread : ℕ) (shape : Shape) (from : ℕ)
    → StartCall settings table meaning area group node thread shape from → (said : Asked)
    → AskStep (site_of (job_of settings table meaning) node) (plain_of group.records)
    (start_ask area node thread (group.progress node) shape from) said
    (plain_of (start_then (job_of settings table meaning) area group now node thread shape from))
    → GroupHolds (job_of settings table meaning) area
    (starts (job_of settings table meaning) area group now node thread shape from (OfNode (OfRequest said))).1
start_by settings table meaning area group now node thread shape from it asked.Ran step =
    let job = job_of settings table meaning in
    let event = timed_event now (Asks node (start_ask area node thread (group.progress node) shape from)) in
    started_kept settings table meaning area group (start_then job area group now node thread shape from) node thread
    shape from (record {
      setting = it.setting;
      serves = it.serves;
      holds = it.holds;
      after = step_keeps job (IsEndpointKept settings) group.records event it.setting.sound it.holds.records it.there;
      there = it.there;
      accepts = accepted area settings.segment (group.progress node) shape from it.passes;
      step = step;
    })
start_by settings table meaning area group now node thread shape from it (asked.Accepted to slot number) step =
    absurd (step.0.other refl)
start_by settings table meaning area group now node thread shape from it asked.NotYet step =
    absurd (step.0.other refl)
start_by settings table meaning area group now node thread shape from it asked.Exhausted step =
    absurd (step.0.other refl)
start_by settings table meaning area group now node thread shape from it (asked.BadArg which) step =
    absurd (none_some (sym (no_fault settings table area node thread (group.progress node) shape from
    it.setting.registered it.setting.good it.setting.nodes it.there
    (accepted area settings.segment (group.progress node) shape from it.passes)) ∙ step.1))
start_by settings table meaning area group now node thread shape from it (asked.LockBusy lock) step =
    start_still settings table meaning area group now node thread shape from it (asked.LockBusy lock) step (λ same. cc)
    (λ to slot number same. cc)
start_by settings table meaning area group now node thread shape from it (asked.Forbidden forbidden) step =
    start_still settings table meaning area group now node thread shape from it (asked.Forbidden forbidden) step
    (λ same. cc) (λ to slot number same. cc)

pub start_kept : (settings : Parameters) (table : List (Option Entry)) (meaning : Meaning) (area : Area)
    (group : Group) (now node thread : ℕ) (shape : Shape) (from : ℕ) → Setting settings table meaning area
    → ServesCollectives meaning → GroupHolds (job_of settings table meaning) area group → node < settings.nodes
    → GroupHolds (job_of settings table meaning) area
    (does_start (job_of settings table meaning) area group now node thread shape from).1
start_kept settings table meaning area group now node thread shape from setting serves holds there =
    by_refusal (start_refusal area settings.segment (group.progress node) shape from) refl
  where
    by_refusal : (refusal : Option StartAnswer)
        → start_refusal area settings.segment (group.progress node) shape from ≡ refusal
        → GroupHolds (job_of settings table meaning) area
        (does_start (job_of settings table meaning) area group now node thread shape from).1
    by_refusal (Some refusal) is =
        subst (λ (one : Option StartAnswer). GroupHolds (job_of settings table meaning) area
        (starts_by (job_of settings table meaning) area group now node thread shape from one).1) (sym is) holds
    by_refusal None is =
        let job = job_of settings table meaning in
        let ask = start_ask area node thread (group.progress node) shape from in
        let event = timed_event now (Asks node ask) in
        let step = asks_step job (plain_of group.records) (plain_of (world_after job group.records event)) node ask
        (world_answer job group.records event)
        (step_plain job (IsEndpointKept settings) group.records event setting.sound holds.records) in
        subst (λ (one : Option StartAnswer). GroupHolds job area
        (starts_by job area group now node thread shape from one).1) (sym is)
        (subst (λ (told : WorldAnswer Answer). GroupHolds job area
        (starts job area group now node thread shape from told).1) (sym step.1)
        (start_by settings table meaning area group now node thread shape from (record {
          setting = setting;
          serves = serves;
          holds = holds;
          there = there;
          passes = is;
        }) step.0 step.2))
