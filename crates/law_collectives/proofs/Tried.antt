-- A try: the invariant holds then.
use Rattle.std.proofs.Common.{◌≡◌, ◌⊎◌, inl, inr, ℕ, ◌<◌, Bool, true, false, List, [], ◌∷◌, length, Option, None}
use Rattle.std.proofs.Common.{Some, refl, sym, ◌∙◌, subst}
use Rattle.std.specs.Prelude.{not, if◌then◌else◌}
use Rattle.wire_message.specs.Parameters.{Parameters}
use Rattle.part_segment.specs.Image.{Write}
use Rattle.part_handlers.specs.declared.rules.Forbidden.{Forbidden}
use Rattle.part_handlers.specs.declared.table.Entry.{Entry}
use Rattle.part_handlers.specs.Runs.{Meaning}
use Rattle.spec_node.specs.NodeStep.{OfCall}
use Rattle.spec_network.specs.World.{Does, OfNode, WorldAnswer, world_after, world_answer}
use Rattle.node_core.specs.Kept.{segment_of}
use Rattle.node_rules.specs.CoreCalls.{OnSegment, Poll}
use Rattle.node_rules.specs.Memory.{Set, range_fault, segment_does, unless_fault}
use Rattle.node_rules.specs.EndpointRules.{OnCore, Records, job_of, timed_event}
use Rattle.node_rules.specs.declared.answer.Answer.{Answer}
use Rattle.node_rules.specs.declared.answer.Answer.TheVariants as answers
use Rattle.node_rules.specs.declared.answer.Local.{Local as LocalAnswer}
use Rattle.node_rules.specs.declared.answer.Local.TheVariants as local
use Rattle.law_transfers.specs.Chunks.{EndpointJob, segment_at}
use Rattle.part_collective_area.specs.Area.{Area}
use Rattle.node_collectives.specs.Progress.{after_end, end_answer, end_refusal, is_bad_dest, is_open, is_ready, other_shape}
use Rattle.node_collectives.specs.Progress.{exhausted_node, writes_from}
use Rattle.law_collectives.specs.Groups.{Group, after_writes, does_end, end_by, ended_group}
use Rattle.part_collective_area.specs.Area.{SpareArea, SparesArea}
use Rattle.law_collectives.specs.Groups.{result_pieces, with_progress, write_event}
use Rattle.law_collectives.specs.Invariant.{GroupHolds}
use Rattle.law_collectives.proofs.Quiet.{with_records}
use Rattle.law_collectives.proofs.Events.{Setting}
use Rattle.law_collectives.proofs.Ended.{phase_ended}
use Rattle.law_collectives.proofs.Called.{core_kept, poll_kept}
use Rattle.law_collectives.proofs.Sizes.{pieces_spare}
use Rattle.node_collectives.specs.declared.answers.EndAnswer.{EndAnswer}
use Rattle.node_collectives.specs.declared.answers.EndAnswer.TheVariants as end_answers
use Rattle.node_collectives.specs.declared.answers.Argument.TheVariants as arguments

-- ---- writes outside of the area

pub set_kept : (settings : Parameters) (table : List (Option Entry)) (meaning : Meaning) (area : Area) (group : Group)
    (now node thread : ℕ) (write : Write) → Setting settings table meaning area
    → GroupHolds (job_of settings table meaning) area group → node < settings.nodes → SparesArea area write
    → GroupHolds (job_of settings table meaning) area (with_records group
    (world_after (job_of settings table meaning) group.records (write_event now node thread write)))
set_kept settings table meaning area group now node thread write setting holds there spare =
    let bytes = segment_of settings (group.records node).local.core in
    core_kept settings table meaning area group now node thread (OnSegment (Set write))
    (segment_does bytes (Set write)).1 setting holds there refl
    (by_fault (range_fault bytes write.offset (length write.bytes)) area write spare)
  where
    by_fault : (fault : Option LocalAnswer) (area : Area) (write : Write) → SparesArea area write
        → SpareArea area (unless_fault fault (local.Done, write ∷ [])).1
    by_fault None area write spare = (spare, tt)
    by_fault (Some fault) area write spare = tt

pub sets_kept : (settings : Parameters) (table : List (Option Entry)) (meaning : Meaning) (area : Area) (group : Group)
    (now node thread : ℕ) (writes : List Write) → Setting settings table meaning area
    → GroupHolds (job_of settings table meaning) area group → node < settings.nodes → SpareArea area writes
    → GroupHolds (job_of settings table meaning) area (with_records group
    (after_writes (job_of settings table meaning) now node thread group.records writes))
sets_kept settings table meaning area group now node thread [] setting holds there spare = holds
sets_kept settings table meaning area group now node thread (write ∷ later) setting holds there spare =
    let job = job_of settings table meaning in
    sets_kept settings table meaning area
    (with_records group (world_after job group.records (write_event now node thread write))) now node thread later
    setting (set_kept settings table meaning area group now node thread write setting holds there spare.0) there
    spare.1

-- ---- a try

-- its answer is that of its poll, or of what stands in the segment
pub end_by_is : (job : EndpointJob) (area : Area) (group : Group) (now node thread dest : ℕ) (told : WorldAnswer Answer)
    → ((forbidden : Forbidden) × (end_by job area group now node thread dest told ≡ end_answers.Forbidden forbidden))
    ⊎ (end_by job area group now node thread dest told
    ≡ end_answer area node (group.progress node) (segment_at job group.records node))
end_by_is job area group now node thread dest (OfNode (OfCall (answers.Forbidden forbidden))) = inl (forbidden, refl)
end_by_is job area group now node thread dest other = inr refl

-- what a try leaves that was answered so, where its poll left these records
ended_kept : (settings : Parameters) (table : List (Option Entry)) (meaning : Meaning) (area : Area) (group : Group)
    (now node thread dest : ℕ) (answer : EndAnswer) → Setting settings table meaning area
    → GroupHolds (job_of settings table meaning) area group → node < settings.nodes
    → is_open (group.progress node) ≡ true
    → SpareArea area (writes_from dest (result_pieces (job_of settings table meaning) area group node))
    → (answer ≡ end_answers.Ended → is_ready area node (group.progress node)
    (segment_at (job_of settings table meaning) group.records node) ≡ true)
    → ((other : ℕ) → answer ≡ end_answers.Mismatch other → is_ready area node (group.progress node)
    (segment_at (job_of settings table meaning) group.records node) ≡ true)
    → GroupHolds (job_of settings table meaning) area
    (ended_group (job_of settings table meaning) area group now node thread dest
    (world_after (job_of settings table meaning) group.records (timed_event now (Does node thread (OnCore Poll)))) answer)
ended_kept settings table meaning area group now node thread dest answer setting holds there open_now spare ok apart =
    by_answer answer ok apart
  where
    job_here : EndpointJob
    job_here = job_of settings table meaning

    polled : Records
    polled = world_after job_here group.records (timed_event now (Does node thread (OnCore Poll)))

    -- the phase is ended, and then it polls
    after_poll : is_ready area node (group.progress node) (segment_at job_here group.records node) ≡ true
        → GroupHolds job_here area
        (with_records (with_progress group node (after_end (group.progress node))) polled)
    after_poll ready =
        poll_kept settings table meaning area (with_progress group node (after_end (group.progress node))) now node
        thread setting (phase_ended job_here area group node (record {
          nodes = setting.nodes;
          few = setting.few;
          good = setting.good;
          holds = holds;
          there = there;
          open_now = open_now;
          ready = ready;
        })) there

    still : GroupHolds job_here area (with_records group polled)
    still = poll_kept settings table meaning area group now node thread setting holds there

    by_answer : (answer : EndAnswer)
        → (answer ≡ end_answers.Ended → is_ready area node (group.progress node) (segment_at job_here group.records node) ≡ true)
        → ((other : ℕ) → answer ≡ end_answers.Mismatch other
        → is_ready area node (group.progress node) (segment_at job_here group.records node) ≡ true)
        → GroupHolds job_here area (ended_group job_here area group now node thread dest polled answer)
    by_answer end_answers.Ended ok apart =
        sets_kept settings table meaning area
        (with_records (with_progress group node (after_end (group.progress node))) polled) now node thread
        (writes_from dest (result_pieces job_here area group node)) setting (after_poll (ok refl)) there spare
    by_answer (end_answers.Mismatch other) ok apart = after_poll (apart other refl)
    by_answer end_answers.NotReady ok apart = still
    by_answer end_answers.NotStarted ok apart = still
    by_answer (end_answers.BadArg argument) ok apart = still
    by_answer (end_answers.Exhausted other) ok apart = still
    by_answer (end_answers.Forbidden forbidden) ok apart = still
    by_answer end_answers.NoMemory ok apart = still

-- ---- the whole call

-- where its first refusal is this one
abbrev pub tries_by : EndpointJob → Area → Group → (now node thread dest : ℕ) → Option EndAnswer → EndAnswer × Group
tries_by job area group now node thread dest refusal =
    elim refusal [
      | Some told ↦ (told, group)
      | None ↦ (
          let poll = timed_event now (Does node thread (OnCore Poll)) in
          let answer = end_by job area group now node thread dest (world_answer job group.records poll) in
          let polled = world_after job group.records poll in
          (answer, ended_group job area group now node thread dest polled answer))
    ]

-- a phase is open that isn't refused
pub open_then : (opened bad : Bool)
    → (if not opened then Some end_answers.NotStarted else (if bad then Some (end_answers.BadArg arguments.Destination) else None)) ≡ None → opened ≡ true
open_then true bad is = refl
open_then false bad is = cc

-- its place isn't bad
pub dest_good : (opened bad : Bool)
    → (if not opened then Some end_answers.NotStarted else (if bad then Some (end_answers.BadArg arguments.Destination) else None)) ≡ None → bad ≡ false
dest_good true true is = cc
dest_good true false is = refl
dest_good false bad is = cc

pub forbids_ok : (forbidden : Forbidden) → end_answers.Forbidden forbidden ≡ end_answers.Ended → ⊥
forbids_ok forbidden is = cc

pub forbids_apart : (forbidden : Forbidden) (other : ℕ) → end_answers.Forbidden forbidden ≡ end_answers.Mismatch other → ⊥
forbids_apart forbidden other is = cc

pub ready_ok : (ready : Bool) (exhausted : Option ℕ) (first : EndAnswer)
    → (if ready then first else elim exhausted [ Some node ↦ end_answers.Exhausted node | None ↦ end_answers.NotReady ]) ≡ end_answers.Ended → ready ≡ true
ready_ok true exhausted first is = refl
ready_ok false (Some node) first is = cc
ready_ok false None first is = cc

pub ready_apart : (ready : Bool) (exhausted : Option ℕ) (first : EndAnswer) (other : ℕ)
    → (if ready then first else elim exhausted [ Some node ↦ end_answers.Exhausted node | None ↦ end_answers.NotReady ]) ≡ end_answers.Mismatch other
    → ready ≡ true
ready_apart true exhausted first other is = refl
ready_apart false (Some node) first other is = cc
ready_apart false None first other is = cc

pub end_kept : (settings : Parameters) (table : List (Option Entry)) (meaning : Meaning) (area : Area) (group : Group)
    (now node thread dest : ℕ) → Setting settings table meaning area
    → GroupHolds (job_of settings table meaning) area group → node < settings.nodes
    → GroupHolds (job_of settings table meaning) area
    (does_end (job_of settings table meaning) area group now node thread dest).1
end_kept settings table meaning area group now node thread dest setting holds there =
    by_refusal (end_refusal area settings.segment node (group.progress node) dest) refl
  where
    by_refusal : (refusal : Option EndAnswer)
        → end_refusal area settings.segment node (group.progress node) dest ≡ refusal
        → GroupHolds (job_of settings table meaning) area
        (does_end (job_of settings table meaning) area group now node thread dest).1
    by_refusal (Some refusal) is =
        subst (λ (one : Option EndAnswer). GroupHolds (job_of settings table meaning) area
        (tries_by (job_of settings table meaning) area group now node thread dest one).1) (sym is) holds
    by_refusal None is =
        let job = job_of settings table meaning in
        let segment = segment_at job group.records node in
        let progress = group.progress node in
        let told = world_answer job group.records (timed_event now (Does node thread (OnCore Poll))) in
        let ready = is_ready area node progress segment in
        let exhausted = exhausted_node area node progress in
        let first : EndAnswer = elim (other_shape area progress segment) [ Some other ↦ end_answers.Mismatch other | None ↦ end_answers.Ended ] in
        subst (λ (one : Option EndAnswer). GroupHolds job area
        (tries_by job area group now node thread dest one).1) (sym is)
        (ended_kept settings table meaning area group now node thread dest
        (end_by job area group now node thread dest told) setting holds there
        (open_then (is_open progress) (is_bad_dest area settings.segment node progress.shape dest) is)
        (pieces_spare settings table meaning area group node dest setting holds there
        (open_then (is_open progress) (is_bad_dest area settings.segment node progress.shape dest) is)
        (dest_good (is_open progress) (is_bad_dest area settings.segment node progress.shape dest) is))
        (λ ended. elim (end_by_is job area group now node thread dest told) [
          | inl forbidden ↦ absurd (forbids_ok forbidden.0 (sym forbidden.1 ∙ ended))
          | inr by_segment ↦ ready_ok ready exhausted first (sym by_segment ∙ ended)
        ])
        (λ other apart. elim (end_by_is job area group now node thread dest told) [
          | inl forbidden ↦ absurd (forbids_apart forbidden.0 other (sym forbidden.1 ∙ apart))
          | inr by_segment ↦ ready_apart ready exhausted first other (sym by_segment ∙ apart)
        ]))
