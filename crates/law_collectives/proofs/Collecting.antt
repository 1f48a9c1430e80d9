-- The law of collectives: what a try to end a phase tells, and what it writes.
use Rattle.std.proofs.Common.{◌≡◌, inl, inr, ℕ, ◌<◌, Bool, true, false, List, length, Option}
use Rattle.std.proofs.Common.{Some, None, refl, sym, ap, ◌∙◌, subst, arith}
use Rattle.std.specs.Prelude.{not, if◌then◌else◌}
use Rattle.wire_message.specs.Parameters.{Parameters}
use Rattle.part_segment.specs.Bytes.{part}
use Rattle.part_handlers.specs.declared.table.Entry.{Entry}
use Rattle.part_handlers.specs.Runs.{Meaning}
use Rattle.spec_network.specs.World.{Does, world_after, world_answer}
use Rattle.spec_network.proofs.Worlds.{step_keeps}
use Rattle.node_rules.specs.CoreCalls.{Poll}
use Rattle.node_rules.specs.EndpointLocal.{IsEndpointKept}
use Rattle.node_rules.specs.EndpointRules.{OnCore, Records, job_of, timed_event}
use Rattle.node_rules.proofs.Sound.{rules_sound}
use Rattle.law_transfers.specs.Chunks.{EndpointJob, segment_at}
use Rattle.part_collective_area.specs.declared.shape.Shape.{Shape}
use Rattle.part_collective_area.specs.Area.{Area}
use Rattle.part_collective_area.specs.Results.{pieces_of, result_of}
use Rattle.node_collectives.specs.Progress.{end_answer, end_refusal, is_bad_dest, is_open, is_ready, other_shape, exhausted_node}
use Rattle.node_collectives.specs.Progress.{writes_from}
use Rattle.law_collectives.specs.Groups.{Group, OfEnd, after_writes, does_end, end_by, ended_group, opening_group}
use Rattle.law_collectives.specs.Groups.{result_pieces}
use Rattle.law_collectives.specs.Invariant.{GroupHolds}
use Rattle.law_collectives.specs.CollectiveLaws.{CollectivesHold, EndsApart, EndsOk, InEveryJob, Try, bytes_given, group_at}
use Rattle.law_collectives.specs.CollectiveLaws.{answer_to_try}
use Rattle.law_collectives.proofs.Ending.{Ready, all_gave, all_same, own_shape, result_stands, shapes_apart}
use Rattle.law_collectives.proofs.Events.{Setting}
use Rattle.law_collectives.proofs.Tried.{dest_good, end_by_is, forbids_apart, forbids_ok, open_then}
use Rattle.law_collectives.proofs.Tried.{tries_by}
use Rattle.law_collectives.proofs.Sizes.{result_sized}
use Rattle.node_collectives.proofs.Sizes.{flat, is_good}
use Rattle.law_collectives.proofs.Results.{result_there}
use Rattle.law_collectives.proofs.Groups.{events_kept}
use Rattle.law_collectives.proofs.Opening.{opening_group_holds}
use Rattle.node_collectives.specs.declared.answers.EndAnswer.{EndAnswer}
use Rattle.node_collectives.specs.declared.answers.EndAnswer.TheVariants as end_answers
use Rattle.node_collectives.specs.declared.answers.Argument.TheVariants as arguments

-- a refusal that comes before any call is none of these
refused_ok : (opened bad : Bool) (told : EndAnswer)
    → (if not opened then Some end_answers.NotStarted else (if bad then Some (end_answers.BadArg arguments.Destination) else None)) ≡ Some told → told ≡ end_answers.Ended → ⊥
refused_ok true true told is same = cc
refused_ok true false told is same = cc
refused_ok false bad told is same = cc

refused_apart : (opened bad : Bool) (told : EndAnswer) (other : ℕ)
    → (if not opened then Some end_answers.NotStarted else (if bad then Some (end_answers.BadArg arguments.Destination) else None)) ≡ Some told
    → told ≡ end_answers.Mismatch other → ⊥
refused_apart true true told other is same = cc
refused_apart true false told other is same = cc
refused_apart false bad told other is same = cc

-- shapes are compared where it is ready
none_ok : (ready : Bool) (shape exhausted : Option ℕ)
    → (if ready then (elim shape [ Some node ↦ end_answers.Mismatch node | None ↦ end_answers.Ended ])
    else elim exhausted [ Some node ↦ end_answers.Exhausted node | None ↦ end_answers.NotReady ]) ≡ end_answers.Ended
    → (ready ≡ true) × (shape ≡ None)
none_ok true None exhausted is = (refl, refl)
none_ok true (Some node) exhausted is = absurd (apart node is)
  where
    apart : (node : ℕ) → end_answers.Mismatch node ≡ end_answers.Ended → ⊥
    apart node is = cc
none_ok false shape (Some node) is = absurd (exhausted node is)
  where
    exhausted : (node : ℕ) → end_answers.Exhausted node ≡ end_answers.Ended → ⊥
    exhausted node is = cc
none_ok false shape None is = absurd (early is)
  where
    early : end_answers.NotReady ≡ end_answers.Ended → ⊥
    early is = cc

some_apart : (ready : Bool) (shape exhausted : Option ℕ) (other : ℕ)
    → (if ready then (elim shape [ Some node ↦ end_answers.Mismatch node | None ↦ end_answers.Ended ])
    else elim exhausted [ Some node ↦ end_answers.Exhausted node | None ↦ end_answers.NotReady ]) ≡ end_answers.Mismatch other
    → (ready ≡ true) × (shape ≡ Some other)
some_apart true None exhausted other is = absurd (same other is)
  where
    same : (other : ℕ) → end_answers.Ended ≡ end_answers.Mismatch other → ⊥
    same other is = cc
some_apart true (Some node) exhausted other is = (refl, found node other is)
  where
    found : (node other : ℕ) → end_answers.Mismatch node ≡ end_answers.Mismatch other → Some node ≡ Some other
    found node other is = cc
some_apart false shape (Some node) other is = absurd (exhausted node other is)
  where
    exhausted : (node other : ℕ) → end_answers.Exhausted node ≡ end_answers.Mismatch other → ⊥
    exhausted node other is = cc
some_apart false shape None other is = absurd (early other is)
  where
    early : (other : ℕ) → end_answers.NotReady ≡ end_answers.Mismatch other → ⊥
    early other is = cc

-- ---- what the answers of a try tell

-- it was not refused, and found what it answers in the segment
record Told (job : EndpointJob) (area : Area) (group : Group) (node dest : ℕ) (answer : EndAnswer) : Type 0 where
  pub none : end_refusal area job.settings.segment node (group.progress node) dest ≡ None
  pub answered : end_answer area node (group.progress node) (segment_at job group.records node) ≡ answer

told_ok : (job : EndpointJob) (area : Area) (group : Group) (now node thread dest : ℕ)
    → (does_end job area group now node thread dest).0 ≡ end_answers.Ended → Told job area group node dest end_answers.Ended
told_ok job area group now node thread dest is =
    by_refusal (end_refusal area job.settings.segment node (group.progress node) dest) refl
  where
    by_refusal : (refusal : Option EndAnswer)
        → end_refusal area job.settings.segment node (group.progress node) dest ≡ refusal
        → Told job area group node dest end_answers.Ended
    by_refusal (Some refusal) refused =
        absurd (refused_ok (is_open (group.progress node))
        (is_bad_dest area job.settings.segment node (group.progress node).shape dest) refusal refused
        (sym (ap (λ (one : Option EndAnswer). (tries_by job area group now node thread dest one).0) refused) ∙ is))
    by_refusal None good =
        let told = world_answer job group.records (timed_event now (Does node thread (OnCore Poll))) in
        let by : end_by job area group now node thread dest told ≡ end_answers.Ended =
        sym (ap (λ (one : Option EndAnswer). (tries_by job area group now node thread dest one).0) good) ∙ is in
        record {
          none = good;
          answered = elim (end_by_is job area group now node thread dest told) [
            | inl forbidden ↦ absurd (forbids_ok forbidden.0 (sym forbidden.1 ∙ by))
            | inr by_segment ↦ sym by_segment ∙ by
          ];
        }

told_apart : (job : EndpointJob) (area : Area) (group : Group) (now node thread dest other : ℕ)
    → (does_end job area group now node thread dest).0 ≡ end_answers.Mismatch other
    → Told job area group node dest (end_answers.Mismatch other)
told_apart job area group now node thread dest other is =
    by_refusal (end_refusal area job.settings.segment node (group.progress node) dest) refl
  where
    by_refusal : (refusal : Option EndAnswer)
        → end_refusal area job.settings.segment node (group.progress node) dest ≡ refusal
        → Told job area group node dest (end_answers.Mismatch other)
    by_refusal (Some refusal) refused =
        absurd (refused_apart (is_open (group.progress node))
        (is_bad_dest area job.settings.segment node (group.progress node).shape dest) refusal other refused
        (sym (ap (λ (one : Option EndAnswer). (tries_by job area group now node thread dest one).0) refused) ∙ is))
    by_refusal None good =
        let told = world_answer job group.records (timed_event now (Does node thread (OnCore Poll))) in
        let by : end_by job area group now node thread dest told ≡ end_answers.Mismatch other =
        sym (ap (λ (one : Option EndAnswer). (tries_by job area group now node thread dest one).0) good) ∙ is in
        record {
          none = good;
          answered = elim (end_by_is job area group now node thread dest told) [
            | inl forbidden ↦ absurd (forbids_apart forbidden.0 other (sym forbidden.1 ∙ by))
            | inr by_segment ↦ sym by_segment ∙ by
          ];
        }

-- it is ready
ready_here : (settings : Parameters) (table : List (Option Entry)) (meaning : Meaning) (area : Area) (group : Group)
    (node dest : ℕ) → Setting settings table meaning area → GroupHolds (job_of settings table meaning) area group
    → node < settings.nodes → end_refusal area settings.segment node (group.progress node) dest ≡ None
    → is_ready area node (group.progress node) (segment_at (job_of settings table meaning) group.records node) ≡ true
    → Ready (job_of settings table meaning) area group node
ready_here settings table meaning area group node dest setting holds there none ready = record {
  nodes = setting.nodes;
  few = setting.few;
  good = setting.good;
  holds = holds;
  there = there;
  open_now = open_then (is_open (group.progress node))
      (is_bad_dest area settings.segment node (group.progress node).shape dest) none;
  ready = ready;
}

-- what a try leaves that ends its phase with a result
ends_records : (job : EndpointJob) (area : Area) (group : Group) (now node thread dest : ℕ)
    → end_refusal area job.settings.segment node (group.progress node) dest ≡ None
    → (does_end job area group now node thread dest).0 ≡ end_answers.Ended
    → (does_end job area group now node thread dest).1.records
    ≡ after_writes job now node thread
    (world_after job group.records (timed_event now (Does node thread (OnCore Poll))))
    (writes_from dest (result_pieces job area group node))
ends_records job area group now node thread dest none is =
    let told = world_answer job group.records (timed_event now (Does node thread (OnCore Poll))) in
    let polled = world_after job group.records (timed_event now (Does node thread (OnCore Poll))) in
    let by : end_by job area group now node thread dest told ≡ end_answers.Ended =
    sym (ap (λ (one : Option EndAnswer). (tries_by job area group now node thread dest one).0) none) ∙ is in
    ap (λ (one : Option EndAnswer). (tries_by job area group now node thread dest one).1.records) none
    ∙ ap (λ (answer : EndAnswer). (ended_group job area group now node thread dest polled answer).records) by

-- ---- the law

same_end : (one other : EndAnswer) → OfEnd one ≡ OfEnd other → one ≡ other
same_end one other is = cc

pub collectives_hold : InEveryJob CollectivesHold
collectives_hold settings table meaning area range lawful registered serves good nodes = record {
  ok = ok;
  apart = apart;
}
  where
    job_here : EndpointJob
    job_here = job_of settings table meaning

    setting : Setting settings table meaning area
    setting = record {
      sound = rules_sound settings table meaning range lawful;
      nodes = nodes;
      few = (let most = range.nodes in omega (arith, nodes, most));
      good = good;
      registered = registered;
    }

    holds_at : (try : Try job_here area) → GroupHolds job_here area (group_at try)
    holds_at try =
        events_kept settings table meaning area (opening_group settings) try.events setting serves
        (opening_group_holds settings table meaning area setting) try.good

    ok : (try : Try job_here area) → (answer_to_try try).0 ≡ OfEnd end_answers.Ended → EndsOk try
    ok try is =
        let group = group_at try in
        let node = try.node in
        let progress = group.progress node in
        let holds = holds_at try in
        let segment = segment_at job_here group.records node in
        let answered = same_end (does_end job_here area group try.now node try.thread try.dest).0 end_answers.Ended is in
        let told = told_ok job_here area group try.now node try.thread try.dest answered in
        let found = none_ok (is_ready area node progress segment) (other_shape area progress segment)
        (exhausted_node area node progress) told.answered in
        let it = ready_here settings table meaning area group node try.dest setting holds try.there told.none found.0 in
        let own = all_gave job_here area group node it node try.there in
        let mine = own_shape job_here area group node it own.0 own.1 in
        let pieces = result_pieces job_here area group node in
        let given = bytes_given group progress.ended 0 settings.nodes in
        let poll = timed_event try.now (Does node try.thread (OnCore Poll)) in
        let opened = open_then (is_open progress) (is_bad_dest area settings.segment node progress.shape try.dest)
        told.none in
        let place = is_good area settings.segment node progress.shape try.dest
        (subst (λ (n : ℕ). node < n) (sym nodes) try.there)
        (dest_good (is_open progress) (is_bad_dest area settings.segment node progress.shape try.dest) told.none) in
        let long = result_sized job_here area group node good holds try.there opened in
        let inside = place.inside in
        let stands = result_there settings table meaning (world_after job_here group.records poll) try.now node
        try.thread try.dest pieces setting.sound
        (step_keeps job_here (IsEndpointKept settings) group.records poll setting.sound holds.records try.there)
        try.there (omega (arith, long, inside)) in
        let after = ends_records job_here area group try.now node try.thread try.dest told.none answered in
        let same : flat pieces ≡ result_of own.0.shape given node =
        ap flat (result_stands job_here area group node it found.1)
        ∙ (ap (λ (count : ℕ). flat (pieces_of progress.shape (bytes_given group progress.ended 0 count) node)) nodes
        ∙ ap (λ (shape : Shape). flat (pieces_of shape given node)) (sym mine)) in
        record {
          own = own.0;
          gave = own.1;
          all = all_gave job_here area group node it;
          same = λ from one low gave. all_same job_here area group node it found.1 own.0 own.1 from one low gave;
          result = subst (λ (result : List ℕ).
              part (segment_at job_here (answer_to_try try).1.records node) try.dest (length result) ≡ result) same
              (ap (λ (records : Records). part (segment_at job_here records node) try.dest (length (flat pieces))) after
              ∙ stands);
        }

    apart : (try : Try job_here area) (other : ℕ) → (answer_to_try try).0 ≡ OfEnd (end_answers.Mismatch other) → EndsApart try other
    apart try other is =
        let group = group_at try in
        let node = try.node in
        let progress = group.progress node in
        let holds = holds_at try in
        let segment = segment_at job_here group.records node in
        let answered = same_end (does_end job_here area group try.now node try.thread try.dest).0 (end_answers.Mismatch other) is in
        let told = told_apart job_here area group try.now node try.thread try.dest other answered in
        let found = some_apart (is_ready area node progress segment) (other_shape area progress segment)
        (exhausted_node area node progress) other told.answered in
        let it = ready_here settings table meaning area group node try.dest setting holds try.there told.none found.0 in
        let own = all_gave job_here area group node it node try.there in
        let differ = shapes_apart job_here area group node other it found.1 own.0 own.1 in
        record {
          own = own.0;
          gave = own.1;
          all = all_gave job_here area group node it;
          there = differ.there;
          apart = differ.apart;
          first = differ.before;
        }
