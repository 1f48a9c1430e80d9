-- The calls that a try makes: the invariant holds then.
use Rattle.std.proofs.Common.{◌≡◌, inl, inr, ℕ, ◌<◌, List, [], ◌++◌, refl, sym, ap, ◌∙◌, Option}
use Rattle.std.proofs.Common.{append-nil}
use Rattle.std.specs.Prelude.{Result, Ok, Err}
use Rattle.std.proofs.lemmas.Bool.{cases_eq}
use Rattle.wire_message.specs.Parameters.{Parameters}
use Rattle.part_segment.specs.Image.{Write}
use Rattle.part_handlers.specs.declared.rules.Forbidden.{Forbidden}
use Rattle.part_handlers.specs.declared.table.Entry.{Entry}
use Rattle.part_handlers.specs.Runs.{Meaning}
use Rattle.base_lists.proofs.Put.{put_same, put_other}
use Rattle.spec_node.specs.NodeStep.{Job, OfRequest, OfCall, OfDelivery, OfTick}
use Rattle.spec_network.specs.Plain.{Plain, plain_of}
use Rattle.spec_network.specs.PlainStep.{CallStep, PlainStep}
use Rattle.spec_network.specs.World.{Does, OfNode, Unsent, WorldAnswer, world_after, world_answer}
use Rattle.spec_network.proofs.PlainSteps.{step_plain}
use Rattle.spec_network.proofs.Worlds.{step_keeps}
use Rattle.node_core.specs.Kept.{Local}
use Rattle.node_core.specs.ClientRules.{rules}
use Rattle.node_rules.specs.CoreCalls.{LocalCall, Poll, if_allowed, local_does}
use Rattle.node_rules.specs.EndpointLocal.{EndpointLocal, IsEndpointKept}
use Rattle.node_rules.specs.EndpointRules.{OnCore, job_of, timed_event}
use Rattle.node_rules.specs.declared.answer.Answer.{Answer}
use Rattle.law_transfers.specs.Chunks.{writes_at}
use Rattle.part_collective_area.specs.Area.{Area}
use Rattle.law_collectives.specs.Groups.{Group}
use Rattle.part_collective_area.specs.Area.{SpareArea}
use Rattle.law_collectives.specs.Invariant.{GroupHolds}
use Rattle.law_collectives.proofs.Quiet.{asks_same, fresh_same, quiet_kept, ran_same, with_records}
use Rattle.law_collectives.proofs.Events.{Setting, quiet_by}

-- what the world answers to a call
pub does_step : {Local Call Told : Type 0} (job : Job Local Call Told) (p q : Plain Local) (node thread : ℕ) (call : Call)
    (answer : WorldAnswer Told) → PlainStep job p (Does node thread call) answer q
    → (told : Told) × (answer ≡ OfNode (OfCall told)) × CallStep job p (Does node thread call) told q
does_step job p q node thread call (OfNode (OfCall told)) step = (told, refl, step)
does_step job p q node thread call (OfNode (OfRequest said)) step = absurd step
does_step job p q node thread call (OfNode (OfDelivery said)) step = absurd step
does_step job p q node thread call (OfNode (OfTick said)) step = absurd step
does_step job p q node thread call Unsent step = absurd step

-- a call on what a core keeps that writes these, outside of the area
pub core_kept : (settings : Parameters) (table : List (Option Entry)) (meaning : Meaning) (area : Area) (group : Group)
    (now node thread : ℕ) (call : LocalCall) (beside : List Write) → Setting settings table meaning area
    → GroupHolds (job_of settings table meaning) area group → node < settings.nodes
    → (local_does settings (rules settings table meaning) thread call (group.records node).local.core).1.writes
    ≡ writes_at group.records node ++ beside
    → SpareArea area beside
    → GroupHolds (job_of settings table meaning) area (with_records group
    (world_after (job_of settings table meaning) group.records (timed_event now (Does node thread (OnCore call)))))
core_kept settings table meaning area group now node thread call beside setting holds there writes spare =
    let job = job_of settings table meaning in
    let event = timed_event now (Does node thread (OnCore call)) in
    let next = world_after job group.records event in
    let plain = plain_of group.records in
    let step = does_step job plain (plain_of next) node thread (OnCore call) (world_answer job group.records event)
    (step_plain job (IsEndpointKept settings) group.records event setting.sound holds.records) in
    let leaves = step.2.1 in
    let requests : (plain_of next).requests ≡ plain.requests = ap (λ (p : Plain EndpointLocal). p.requests) leaves in
    let runs : (plain_of next).runs ≡ plain.runs = ap (λ (p : Plain EndpointLocal). p.runs) leaves in
    quiet_kept job area group next holds
    (quiet_by settings table meaning area group next setting holds
    (step_keeps job (IsEndpointKept settings) group.records event setting.sound holds.records there)
    (asks_same plain (plain_of next) requests) (fresh_same plain (plain_of next) requests)
    (ran_same plain (plain_of next) (asks_same plain (plain_of next) requests) runs)
    (λ at has. elim (cases_eq at node) [
      | inl here ↦ (
        beside,
        ap (writes_at next) here
            ∙ (ap (λ (p : Plain EndpointLocal). (p.local node).core.writes) leaves
            ∙ (ap (λ (local : EndpointLocal). local.core.writes) (put_same plain.local node _)
            ∙ (writes
            ∙ (ap (λ (list : List Write). list ++ beside) (sym (append-nil (writes_at group.records node)))
            ∙ ap (λ (i : ℕ). (writes_at group.records i ++ []) ++ beside) (sym here))))),
        spare,
      )
      | inr apart ↦ (
        [],
        ap (λ (p : Plain EndpointLocal). (p.local at).core.writes) leaves
            ∙ (ap (λ (local : EndpointLocal). local.core.writes) (put_other plain.local node _ at apart)
            ∙ (sym (append-nil (writes_at group.records at))
            ∙ sym (append-nil (writes_at group.records at ++ [])))),
        tt,
      )
    ]))

-- a poll
pub poll_kept : (settings : Parameters) (table : List (Option Entry)) (meaning : Meaning) (area : Area) (group : Group)
    (now node thread : ℕ) → Setting settings table meaning area
    → GroupHolds (job_of settings table meaning) area group → node < settings.nodes
    → GroupHolds (job_of settings table meaning) area (with_records group
    (world_after (job_of settings table meaning) group.records (timed_event now (Does node thread (OnCore Poll)))))
poll_kept settings table meaning area group now node thread setting holds there =
    core_kept settings table meaning area group now node thread Poll [] setting holds there
    (by_judged settings table meaning thread _ _ (group.records node).local.core
    ∙ sym (append-nil (writes_at group.records node))) tt
  where
    by_judged : (settings : Parameters) (table : List (Option Entry)) (meaning : Meaning) (thread : ℕ)
        (judged : Result (Unit {0}) Forbidden) (answer : Answer) (core : Local)
        → (if_allowed (rules settings table meaning) thread judged answer core).1.writes ≡ core.writes
    by_judged settings table meaning thread (Ok allowed) answer core = refl
    by_judged settings table meaning thread (Err forbidden) answer core = refl
