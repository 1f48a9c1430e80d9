-- What each part of an endpoint keeps makes up what the endpoint keeps.
use Rattle.std.proofs.Common.{◌≡◌, ℕ, ◌<◌, ◌≤◌, sym, ap, ◌∙◌, subst}
use Rattle.wire_message.specs.Parameters.{Parameters, credits_of}
use Rattle.part_handlers.specs.Runs.{Meaning, IsLawfulMeaning, nothing_done}
use Rattle.part_handlers.proofs.Lawful.{lawful-untouched}
use Rattle.spec_node.specs.Record.{Node}
use Rattle.spec_node.specs.NodeStep.{node_answer, node_after}
use Rattle.spec_node.specs.Step.{is_exhausted}
use Rattle.spec_node.proofs.LocalKept.{event_kept}
use Rattle.part_barrier.specs.Record.{BarrierRecord}
use Rattle.part_barrier.specs.BarrierState.{BarrierState}
use Rattle.part_barrier.specs.Stands.{BarrierStands}
use Rattle.part_transfers.specs.Stands.{room_of}
use Rattle.node_core.specs.CoreState.{CoreState}
use Rattle.node_core.specs.CoreContracts.{IsSameNode}
use Rattle.node_rules.specs.EndpointLocal.{EndpointLocal, IsEndpointKept}
use Rattle.node_rules.specs.EndpointRules.{RecordEvent, answer_told, transition}
use Rattle.node_rules.specs.Tracking.{NodeTracks}
use Rattle.node_rules.specs.declared.answer.Answer.{Answer}
use Rattle.node_rules.proofs.Sound.{rules_sound}
use Rattle.node_rules.proofs.Tracking.{event_tracks}
use Rattle.node_endpoint.specs.EndpointState.{EndpointState, EndpointStands, ForItsRecord, NodeSteps, job_here}
use Rattle.node_endpoint.specs.Parts.{EndpointKeeps, Parts, whole, HasRecord, IsWhole, IsSameExtended, caller_in}

-- a meaning under which no handler does anything
pub nothing_runs : Meaning
nothing_runs handler frame start = nothing_done start

pub nothing_lawful : IsLawfulMeaning nothing_runs
unfolding nothing_runs
nothing_lawful handler frame start = lawful-untouched frame start

-- what an endpoint keeps, beside what holds of its record
pub keeps_of : (endpoint : EndpointState) (node : Node EndpointLocal) → EndpointStands endpoint node
    → EndpointKeeps endpoint node
keeps_of endpoint node S = record {
  core = S.core;
  transfers = S.transfers;
  regions_are = S.regions_are;
  registers_are = S.registers_are;
  barrier = S.barrier;
}

-- with what holds of its record
pub stands_by : (endpoint : EndpointState) (node : Node EndpointLocal) → EndpointKeeps endpoint node
    → IsEndpointKept endpoint.core.settings endpoint.core.me node.local
    → NodeTracks endpoint.core.settings.version node → EndpointStands endpoint node
stands_by endpoint node K kept tracks = record {
  core = K.core;
  kept = kept;
  tracks = tracks;
  transfers = K.transfers;
  regions_are = K.regions_are;
  registers_are = K.registers_are;
  barrier = K.barrier;
}

-- the endpoint keeps what the record's next one gives: then it stands for it
pub steps_by : (meaning : Meaning) (old new : EndpointState) (now : ℕ) (event : RecordEvent) (answer : Answer)
    → IsLawfulMeaning meaning → IsSameNode old.core new.core
    → ForItsRecord old (λ node.
    (answer ≡ answer_told (node_answer (job_here meaning old) old.core.me node now event))
    × EndpointKeeps new (node_after (job_here meaning old) old.core.me node now event))
    → NodeSteps meaning old (transition now event answer) new
steps_by meaning old new now event answer lawful same does = record {
  same = same;
  steps = λ node S.
      let it = does node S in
      let job = job_here meaning old in
      let next = node_after job old.core.me node now event in
      let kept = event_kept job (IsEndpointKept old.core.settings) old.core.me node now event
      (rules_sound old.core.settings old.core.table meaning S.core.range lawful) S.kept in
      let tracks = event_tracks old.core.settings old.core.table meaning old.core.me node now event S.tracks in (
        it.0,
        stands_by new next it.1
            (subst (λ me. IsEndpointKept new.core.settings me next.local) (sym same.me_is)
            (subst (λ (s : Parameters). IsEndpointKept s old.core.me next.local) (sym same.settings) kept))
            (subst (λ (s : Parameters). NodeTracks s.version next) (sym same.settings) tracks),
      );
}

-- the core of the same node, after two steps
pub same_node : (old mid new : CoreState) → IsSameNode old mid → IsSameNode mid new → IsSameNode old new
same_node old mid new first second = record {
  settings = second.settings ∙ first.settings;
  me_is = second.me_is ∙ first.me_is;
  table = second.table ∙ first.table;
  segment_length = second.segment_length ∙ first.segment_length;
}

-- a thread of it
pub caller_same : (old new : CoreState) (node : Node EndpointLocal) (thread : ℕ) → IsSameNode old new
    → caller_in new node thread ≡ caller_in old node thread
caller_same old new node thread same =
    ap (λ me. record {
      settings = new.settings;
      me = me;
      thread = thread;
      exhausted = is_exhausted new.settings node;
    }) same.me_is
    ∙ ap (λ (s : Parameters). record {
      settings = s;
      me = old.me;
      thread = thread;
      exhausted = is_exhausted s node;
    }) same.settings

-- a barrier that stands for this does among the same nodes
pub barrier_of : (old new : CoreState) (barrier : BarrierState) (before after : BarrierRecord) → IsSameNode old new
    → after ≡ before → BarrierStands old.settings.nodes old.me barrier before
    → BarrierStands new.settings.nodes new.me barrier after
barrier_of old new barrier before after same is S =
    subst (λ m. BarrierStands new.settings.nodes m barrier after) (sym same.me_is)
    (subst (λ (s : Parameters). BarrierStands s.nodes old.me barrier after) (sym same.settings)
    (subst (λ kept. BarrierStands old.settings.nodes old.me barrier kept) (sym is) S))

-- ---- the whole

-- its record's next one is a record of it
pub has_next : (meaning : Meaning) (old new : EndpointState) (now : ℕ) (event : RecordEvent) (answer : Answer)
    → NodeSteps meaning old (transition now event answer) new → HasRecord old → HasRecord new
has_next meaning old new now event answer N had = (_, (N.steps had.0 had.1).1)

-- what holds of the two parts stays so
pub stays_whole : (old new : Parts) → IsWhole old.core old.extended → IsSameNode old.core new.core
    → IsSameExtended old.extended new.extended → HasRecord (whole new) → IsWhole new.core new.extended
stays_whole old new W same frame has = record {
  nodes = frame.nodes ∙ (W.nodes ∙ sym nodes_are);
  me_is = frame.me_is ∙ (W.me_is ∙ sym same.me_is);
  few = subst (λ n. n ≤ 256) (sym nodes_are) W.few;
  me_in = subst (λ (s : Parameters). new.core.me < s.nodes) (sym same.settings)
      (subst (λ m. m < old.core.settings.nodes) (sym same.me_is) W.me_in);
  segment = same.segment_length ∙ (W.segment ∙ ap (λ (s : Parameters). s.segment) (sym same.settings));
  threads = frame.threads ∙ (W.threads ∙ ap (λ (s : Parameters). s.threads) (sym same.settings));
  barrier_nodes = ap (λ s. s.nodes) has.1.barrier.is;
  room_nodes = ap (λ r. r.nodes) frame.room ∙ (W.room_nodes ∙ sym nodes_are);
  room = λ to there other.
      subst (λ r. credits_of new.core.settings new.core.me to ≤ r) (sym (ap (λ r. r.credits) frame.room))
      (subst (λ (s : Parameters). credits_of s new.core.me to ≤ (room_of old.extended.transfers).credits)
      (sym same.settings)
      (subst (λ m. credits_of old.core.settings m to ≤ (room_of old.extended.transfers).credits) (sym same.me_is)
      (W.room to (subst (λ n. to < n) nodes_are there) (λ e. other (e ∙ sym same.me_is)))));
  record_ = has;
}
  where
    nodes_are : new.core.settings.nodes ≡ old.core.settings.nodes
    nodes_are = ap (λ (s : Parameters). s.nodes) same.settings
