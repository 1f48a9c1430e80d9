-- A step: the invariant holds then.
use Rattle.std.proofs.Common.{◌≡◌, inl, inr, ℕ, zero, suc, ◌+◌, ◌<◌, ◌≤◌, Bool, true, false, true≢false}
use Rattle.std.proofs.Common.{List, length, Option, refl, sym, ap, ◌∙◌, subst, arith}
use Rattle.std.specs.Prelude.{◌≢◌, ◌==◌, ◌&&◌, not, nat_lt, if◌then◌else◌}
use Rattle.std.proofs.lemmas.Bool.{cases_Bool, cases_eq, eq-eqb}
use Rattle.wire_message.specs.Parameters.{Parameters}
use Rattle.part_handlers.specs.declared.table.Entry.{Entry}
use Rattle.part_handlers.specs.Runs.{Meaning}
use Rattle.base_lists.specs.Put.{put}
use Rattle.base_lists.proofs.Put.{put_same, put_other}
use Rattle.spec_node.specs.declared.answer.Asked.{Asked}
use Rattle.spec_node.specs.declared.answer.Asked.TheVariants as asked
use Rattle.spec_node.specs.Behaviour.{Ask}
use Rattle.spec_node.specs.NodeStep.{Job, OfRequest, OfCall, OfDelivery, OfTick, site_of}
use Rattle.spec_network.specs.Plain.{Plain, plain_of}
use Rattle.spec_network.specs.PlainStep.{AskStep, PlainStep}
use Rattle.spec_network.specs.World.{Asks, OfNode, Unsent, WorldAnswer, world_after, world_answer}
use Rattle.spec_network.proofs.PlainSteps.{step_plain}
use Rattle.spec_network.proofs.Worlds.{step_keeps}
use Rattle.node_rules.specs.EndpointLocal.{IsEndpointKept}
use Rattle.node_rules.specs.EndpointRules.{Records, job_of, timed_event}
use Rattle.node_rules.specs.declared.answer.Answer.{Answer}
use Rattle.law_transfers.specs.Chunks.{EndpointJob}
use Rattle.part_collective_area.specs.Area.{Area}
use Rattle.law_collectives.specs.Phases.{Nothing}
use Rattle.node_collectives.specs.Progress.{Progress, is_left, is_open, step_ask, with_exhausted}
use Rattle.law_collectives.specs.Groups.{Group, GoesOn, Stops, asked_in, does_step, step_from, step_goes, with_progress}
use Rattle.law_collectives.specs.CollectiveLaws.{Gave}
use Rattle.law_collectives.specs.Invariant.{GroupHolds, phases_of, sent_count}
use Rattle.law_collectives.proofs.Phases.{kept}
use Rattle.law_collectives.proofs.Quiet.{with_records}
use Rattle.law_collectives.proofs.Events.{Setting}
use Rattle.law_collectives.proofs.Starting.{ask_still}
use Rattle.law_collectives.proofs.Sent.{sent_kept}
use Rattle.node_collectives.specs.declared.answers.StepAnswer.{StepAnswer}

-- ---- where only the exhausted nodes changed

pub record SameButExhausted (progress other : Progress) : Type 0 where
  pub started : other.started ≡ progress.started
  pub ended : other.ended ≡ progress.ended
  pub shape : other.shape ≡ progress.shape
  pub sent : other.sent ≡ progress.sent

put_field : {X : Type 0} (field : Progress → X) (group : Group) (node : ℕ) (progress : Progress)
    → field progress ≡ field (group.progress node) → (one : ℕ)
    → field (put group.progress node progress one) ≡ field (group.progress one)
put_field field group node progress same one = elim (cases_eq one node) [
  | inl here ↦ ap (λ (at : ℕ). field (put group.progress node progress at)) here
      ∙ (ap field (put_same group.progress node progress)
      ∙ (same ∙ ap (λ (at : ℕ). field (group.progress at)) (sym here)))
  | inr apart ↦ ap field (put_other group.progress node progress one apart)
]

pub progress_kept : (job : EndpointJob) (area : Area) (group : Group) (node : ℕ) (progress : Progress)
    → GroupHolds job area group → SameButExhausted (group.progress node) progress
    → GroupHolds job area (with_progress group node progress)
progress_kept job area group node progress holds same =
    let count = λ (one other : ℕ). counts group node progress same one other in
    let ended = put_field (λ it. it.ended) group node progress same.ended in
    record {
      records = holds.records;
      phases = kept job.settings.nodes (phases_of job area group)
          (phases_of job area (with_progress group node progress)) Nothing holds.phases tt (
            (λ one. refl),
            ended,
            (λ one other has has_other. ap (λ (n : ℕ). if other == one then length (group.given one) else n) (count one other)),
            record { ran = λ one other phase. refl; stands = λ at parity one has low has_one. refl },
          );
      progress = λ one has.
          let old = holds.progress one has in
          record {
            started = put_field (λ it. it.started) group node progress same.started one ∙ old.started;
            shape = λ given low gave.
                old.shape given (subst (λ (n : ℕ). n < length (group.given one)) (ended one) low)
                (subst (λ (n : ℕ). Gave group one n given) (ended one) gave)
                ∙ sym (put_field (λ it. it.shape) group node progress same.shape one);
            given = old.given;
            small = old.small;
          };
      messages = λ one other number request has has_other there handler.
          let old = holds.messages one other number request has has_other there handler in
          record {
            phase = old.phase;
            given = old.given;
            gave = old.gave;
            sent = subst (λ (n : ℕ). old.phase < n)
                (sym (ap (λ (n : ℕ). if other == one then length (group.given one) else n) (count one other)))
                old.sent;
            content_is = old.content_is;
          };
      once = holds.once;
      parts = λ at one phase given has has_one stands gave.
          let old = holds.parts at one phase given has has_one stands gave in
          record { shape = old.shape; bytes = old.bytes };
    }
  where
    counts : (group : Group) (node : ℕ) (progress : Progress) → SameButExhausted (group.progress node) progress
        → (one other : ℕ)
        → sent_count (put group.progress node progress one) other ≡ sent_count (group.progress one) other
    counts group node progress same one other =
        put_field (λ it. sent_count it other) group node progress
        (ap (λ (n : ℕ). n + (if nat_lt n progress.started && progress.sent other then 1 else 0)) same.ended
        ∙ (ap (λ (n : ℕ). (group.progress node).ended
        + (if nat_lt (group.progress node).ended n && progress.sent other then 1 else 0)) same.started
        ∙ ap (λ (sent : ℕ → Bool). (group.progress node).ended
        + (if is_open (group.progress node) && sent other then 1 else 0)) same.sent)) one

-- ---- a call of a step

-- what the world answers to a request
pub asks_step : {Local Call Told : Type 0} (job : Job Local Call Told) (p q : Plain Local) (node : ℕ) (ask : Ask)
    (answer : WorldAnswer Told) → PlainStep {Call = Call} job p (Asks node ask) answer q
    → (said : Asked) × (answer ≡ OfNode (OfRequest said)) × AskStep (site_of job node) p ask said q
asks_step job p q node ask (OfNode (OfRequest said)) step = (said, refl, step)
asks_step job p q node ask (OfNode (OfCall said)) step = absurd step
asks_step job p q node ask (OfNode (OfDelivery said)) step = absurd step
asks_step job p q node ask (OfNode (OfTick said)) step = absurd step
asks_step job p q node ask Unsent step = absurd step

-- a node to which a step may send
left_is : (me to : ℕ) (progress : Progress) → is_left me to progress ≡ true
    → (me ≢ to) × (progress.sent to ≡ false)
left_is me to progress is = elim (cases_Bool (to == me)) [
  | inl same ↦ absurd (true≢false (sym is ∙ rw same refl))
  | inr differ ↦ (
    (λ same. true≢false (sym (eq-eqb to me (sym same)) ∙ differ)),
    by_sent (progress.sent to) (sym (rw differ refl) ∙ is),
  )
]
  where
    by_sent : (sent : Bool) → not sent ≡ true → sent ≡ false
    by_sent true is = absurd (true≢false (sym is))
    by_sent false is = refl

-- ---- the calls of a step

-- where a call was answered so, and those behind it keep the invariant
record Calls (settings : Parameters) (table : List (Option Entry)) (meaning : Meaning) (area : Area) (group : Group)
    (now node thread to many : ℕ) : Type 0 where
  setting : Setting settings table meaning area
  holds : GroupHolds (job_of settings table meaning) area group
  there : node < settings.nodes
  to_there : to < settings.nodes
  open_now : is_open (group.progress node) ≡ true
  left : is_left node to (group.progress node) ≡ true
  rest : (next : Group) → GroupHolds (job_of settings table meaning) area next
      → is_open (next.progress node) ≡ true
      → GroupHolds (job_of settings table meaning) area
      (step_from (job_of settings table meaning) area next now node thread (suc to) many).1

abbrev records_then : EndpointJob → Area → Group → (now node thread to : ℕ) → Records
records_then job area group now node thread to =
    world_after job group.records (timed_event now (Asks node (step_ask area node thread to (group.progress node))))

-- what a step does where its call was answered so
abbrev goes : EndpointJob → Area → Group → (now node thread to many : ℕ) → WorldAnswer Answer → StepAnswer × Group
goes job area group now node thread to many answer =
    let records = records_then job area group now node thread to in
    elim (step_goes (group.progress node) to (asked_in answer)) [
      | Stops told progress ↦ (told, with_progress (record group { records = records }) node progress)
      | GoesOn progress ↦ step_from job area (with_progress (record group { records = records }) node progress) now node
          thread (suc to) many
    ]

-- it goes so
goes_so : (job : EndpointJob) (area : Area) (group : Group) (now node thread to many : ℕ) (said : Asked)
    → is_left node to (group.progress node) ≡ true
    → world_answer job group.records
    (timed_event now (Asks node (step_ask area node thread to (group.progress node)))) ≡ OfNode (OfRequest said)
    → GroupHolds job area (goes job area group now node thread to many (OfNode (OfRequest said))).1
    → GroupHolds job area (step_from job area group now node thread to (suc many)).1
goes_so job area group now node thread to many said left is holds =
    rw left (subst (λ (answer : WorldAnswer Answer). GroupHolds job area
    (goes job area group now node thread to many answer).1) (sym is) holds)

-- the group with what a call left, where only the exhausted nodes changed
called : (settings : Parameters) (table : List (Option Entry)) (meaning : Meaning) (area : Area) (group : Group)
    (now node thread to many : ℕ) → Calls settings table meaning area group now node thread to many
    → (said : Asked) → said ≢ asked.Ran → ((there slot number : ℕ) → said ≢ asked.Accepted there slot number)
    → AskStep (site_of (job_of settings table meaning) node) (plain_of group.records)
    (step_ask area node thread to (group.progress node)) said
    (plain_of (records_then (job_of settings table meaning) area group now node thread to))
    → (progress : Progress) → SameButExhausted (group.progress node) progress
    → GroupHolds (job_of settings table meaning) area
    (with_progress (with_records group (records_then (job_of settings table meaning) area group now node thread to))
    node progress)
called settings table meaning area group now node thread to many it said ran accepted step progress same =
    let job = job_of settings table meaning in
    let ask = step_ask area node thread to (group.progress node) in
    let next = records_then job area group now node thread to in
    progress_kept job area (with_records group next) node progress
    (ask_still settings table meaning area group next node ask said it.setting it.holds
    (step_keeps job (IsEndpointKept settings) group.records (timed_event now (Asks node ask)) it.setting.sound
    it.holds.records it.there) step ran accepted) same

exhausted_same : (progress : Progress) (to : ℕ) (exhausted : Bool) → SameButExhausted progress (with_exhausted progress to exhausted)
exhausted_same progress to exhausted = record { started = refl; ended = refl; shape = refl; sent = refl }

still_open : (group : Group) (records : Records) (node to : ℕ) (exhausted : Bool) → is_open (group.progress node) ≡ true
    → is_open ((with_progress (with_records group records) node (with_exhausted (group.progress node) to exhausted)).progress node)
    ≡ true
still_open group records node to exhausted is =
    ap is_open (put_same group.progress node (with_exhausted (group.progress node) to exhausted)) ∙ is

call_kept : (settings : Parameters) (table : List (Option Entry)) (meaning : Meaning) (area : Area) (group : Group)
    (now node thread to many : ℕ) → Calls settings table meaning area group now node thread to many
    → (said : Asked)
    → world_answer (job_of settings table meaning) group.records
    (timed_event now (Asks node (step_ask area node thread to (group.progress node)))) ≡ OfNode (OfRequest said)
    → AskStep (site_of (job_of settings table meaning) node) (plain_of group.records)
    (step_ask area node thread to (group.progress node)) said
    (plain_of (records_then (job_of settings table meaning) area group now node thread to))
    → GroupHolds (job_of settings table meaning) area
    (step_from (job_of settings table meaning) area group now node thread to (suc many)).1
call_kept settings table meaning area group now node thread to many it (asked.Accepted there slot number) is step =
    let job = job_of settings table meaning in
    let ask = step_ask area node thread to (group.progress node) in
    let left = left_is node to (group.progress node) it.left in
    goes_so (job_of settings table meaning) area group now node thread to many _ it.left is
    (sent_kept settings table meaning area group (records_then job area group now node thread to) node thread to slot
    number (record {
      setting = it.setting;
      holds = it.holds;
      after = step_keeps job (IsEndpointKept settings) group.records (timed_event now (Asks node ask)) it.setting.sound
          it.holds.records it.there;
      there = it.there;
      to_there = it.to_there;
      apart = left.0;
      open_now = it.open_now;
      left = left.1;
      step = subst (λ (one : ℕ). AskStep (site_of job node) (plain_of group.records) ask
          (asked.Accepted one slot number) (plain_of (records_then job area group now node thread to))) step.1 step;
    }))
call_kept settings table meaning area group now node thread to many it asked.Ran is step =
    absurd ((left_is node to (group.progress node) it.left).0 (sym step.1))
call_kept settings table meaning area group now node thread to many it (asked.Forbidden forbidden) is step =
    goes_so (job_of settings table meaning) area group now node thread to many _ it.left is
    (called settings table meaning area group now node thread to many it (asked.Forbidden forbidden) (λ same. cc)
    (λ there slot number same. cc) step (group.progress node)
    (record { started = refl; ended = refl; shape = refl; sent = refl }))
call_kept settings table meaning area group now node thread to many it asked.Exhausted is step =
    goes_so (job_of settings table meaning) area group now node thread to many _ it.left is
    (it.rest _ (called settings table meaning area group now node thread to many it asked.Exhausted (λ same. cc)
    (λ there slot number same. cc) step _ (exhausted_same (group.progress node) to true))
    (still_open group (records_then (job_of settings table meaning) area group now node thread to) node to true it.open_now))
call_kept settings table meaning area group now node thread to many it asked.NotYet is step =
    goes_so (job_of settings table meaning) area group now node thread to many _ it.left is
    (it.rest _ (called settings table meaning area group now node thread to many it asked.NotYet (λ same. cc)
    (λ there slot number same. cc) step _ (exhausted_same (group.progress node) to false))
    (still_open group (records_then (job_of settings table meaning) area group now node thread to) node to false it.open_now))
call_kept settings table meaning area group now node thread to many it (asked.BadArg which) is step =
    goes_so (job_of settings table meaning) area group now node thread to many _ it.left is
    (it.rest _ (called settings table meaning area group now node thread to many it (asked.BadArg which) (λ same. cc)
    (λ there slot number same. cc) step _ (exhausted_same (group.progress node) to false))
    (still_open group (records_then (job_of settings table meaning) area group now node thread to) node to false it.open_now))
call_kept settings table meaning area group now node thread to many it (asked.LockBusy lock) is step =
    goes_so (job_of settings table meaning) area group now node thread to many _ it.left is
    (it.rest _ (called settings table meaning area group now node thread to many it (asked.LockBusy lock) (λ same. cc)
    (λ there slot number same. cc) step _ (exhausted_same (group.progress node) to false))
    (still_open group (records_then (job_of settings table meaning) area group now node thread to) node to false it.open_now))

-- all of them
from_kept : (settings : Parameters) (table : List (Option Entry)) (meaning : Meaning) (area : Area) (group : Group)
    (now node thread to many : ℕ) → Setting settings table meaning area
    → GroupHolds (job_of settings table meaning) area group → node < settings.nodes
    → is_open (group.progress node) ≡ true → to + many ≤ settings.nodes
    → GroupHolds (job_of settings table meaning) area
    (step_from (job_of settings table meaning) area group now node thread to many).1
from_kept settings table meaning area group now node thread to zero setting holds there open_now low = holds
from_kept settings table meaning area group now node thread to (suc many) setting holds there open_now low =
    let job = job_of settings table meaning in
    let ask = step_ask area node thread to (group.progress node) in
    let event = timed_event now (Asks node ask) in
    elim (cases_Bool (is_left node to (group.progress node))) [
      | inr none ↦ rw none (from_kept settings table meaning area group now node thread (suc to) many setting holds
          there open_now (omega (arith, low)))
      | inl left ↦ (
          let step = asks_step job (plain_of group.records) (plain_of (world_after job group.records event)) node ask
          (world_answer job group.records event)
          (step_plain job (IsEndpointKept settings) group.records event setting.sound holds.records) in
          call_kept settings table meaning area group now node thread to many (record {
            setting = setting;
            holds = holds;
            there = there;
            to_there = omega (arith, low);
            open_now = open_now;
            left = left;
            rest = λ next next_holds next_open. from_kept settings table meaning area next now node thread (suc to)
                many setting next_holds there next_open (omega (arith, low));
          }) step.0 step.1 step.2)
    ]

pub step_kept : (settings : Parameters) (table : List (Option Entry)) (meaning : Meaning) (area : Area) (group : Group)
    (now node thread among : ℕ) → Setting settings table meaning area
    → GroupHolds (job_of settings table meaning) area group → node < settings.nodes → among ≤ settings.nodes
    → GroupHolds (job_of settings table meaning) area
    (does_step (job_of settings table meaning) area group now node thread among).1
step_kept settings table meaning area group now node thread among setting holds there few =
    elim (cases_Bool (is_open (group.progress node))) [
      | inl open_now ↦ rw open_now (from_kept settings table meaning area group now node thread 0 among setting holds
          there open_now (omega (arith, few)))
      | inr shut ↦ rw shut holds
    ]
