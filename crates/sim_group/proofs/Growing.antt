-- Histories of a group of the code: they begin at its opening, go on by what its calls do, and tell what a try means.
use Rattle.std.proofs.Common.{◌≡◌, ℕ, ◌<◌, ◌≤◌, List, [], ◌∷◌, ◌++◌, Option, refl, sym, subst, subst₂, arith}
use Rattle.wire_message.specs.Parameters.{AreInRange, Parameters}
use Rattle.part_handlers.specs.declared.table.Entry.{Entry}
use Rattle.part_handlers.specs.Runs.{Meaning, IsLawfulMeaning}
use Rattle.spec_network.specs.MostHeld.{most_then}
use Rattle.spec_network.specs.World.{EventAt, world_after}
use Rattle.node_rules.specs.EndpointRules.{OtherCall, job_of, transition}
use Rattle.sim_world.specs.Events.{StepsInWorld, job_in}
use Rattle.sim_world.specs.declared.event.WorldAnswer.{WorldAnswer}
use Rattle.sim_world.specs.declared.event.WorldAnswer.TheVariants as world_answers
use Rattle.law_transfers.specs.Chunks.{EndpointJob}
use Rattle.part_collective_area.specs.Area.{Area, IsArea}
use Rattle.part_collective_area.specs.Served.{HasCollectives, ServesCollectives}
use Rattle.node_collectives.specs.declared.answers.EndAnswer.{EndAnswer}
use Rattle.node_collectives.specs.declared.answers.EndAnswer.TheVariants as end_answers
use Rattle.node_collectives.specs.declared.answers.StartAnswer.{StartAnswer}
use Rattle.node_collectives.specs.declared.answers.StartAnswer.TheVariants as start_answers
use Rattle.node_collectives.specs.declared.answers.StepAnswer.{StepAnswer}
use Rattle.node_collectives.specs.declared.answers.StepAnswer.TheVariants as step_answers
use Rattle.law_collectives.specs.Groups.{AreGroupEvents, End, Group, GroupEvent, IsGroupEvent, OfEnd, Other, group_after}
use Rattle.law_collectives.specs.Groups.{group_does, opening_group}
use Rattle.law_collectives.specs.CollectiveLaws.{CollectivesHold}
use Rattle.law_collectives.proofs.Collecting.{collectives_hold}
use Rattle.sim_group.specs.GroupState.{GroupState}
use Rattle.sim_group.specs.Standing.{AreAsFar, Does, DoesStart, DoesStep, IsOf}
use Rattle.sim_group.specs.Histories.{GrowsBeside, GrowsByStart, GrowsByStep, History, IsHistory, TellsResult}
use Rattle.sim_group.specs.Histories.{TriedAt, grown, left_by, try_behind}

-- ---- one event more

after_more : (job : EndpointJob) (area : Area) (group : Group) (events : List GroupEvent) (event : GroupEvent)
    → group_after job area group (events ++ event ∷ [])
    ≡ (group_does job area (group_after job area group events) event).1
after_more job area group [] event = refl
after_more job area group (first ∷ later) event =
    after_more job area (group_does job area group first).1 later event

good_more : (job : EndpointJob) (area : Area) (group : Group) (events : List GroupEvent) (event : GroupEvent)
    → AreGroupEvents job area group events → IsGroupEvent job area (group_after job area group events) event
    → AreGroupEvents job area group (events ++ event ∷ [])
good_more job area group [] event good may = (may, tt)
good_more job area group (first ∷ later) event good may =
    (good.0, good_more job area (group_does job area group first).1 later event good.1 may)

-- the world is of the same job
pub record IsSameJob (old new : GroupState) : Type 0 where
  pub settings : new.world.settings ≡ old.world.settings
  pub table : new.world.table ≡ old.world.table

-- a history, of what the job has of a group
record IsHistoryIn (meaning : Meaning) (it : GroupState) (history : History) (settings : Parameters)
    (table : List (Option Entry)) : Type 0 where
  serves : ServesCollectives meaning
  registered : HasCollectives table
  area_good : IsArea settings.segment history.area
  nodes : history.area.nodes ≡ settings.nodes
  good : AreGroupEvents (job_of settings table meaning) history.area (opening_group settings) history.events
  is_left : IsOf it history.area
      (group_after (job_of settings table meaning) history.area (opening_group settings) history.events)

history_in : (meaning : Meaning) (old new : GroupState) (history : History) → IsSameJob old new
    → IsHistoryIn meaning new history old.world.settings old.world.table → IsHistory meaning new history
history_in meaning old new history same is =
    let it = subst₂ (λ (settings : Parameters) (table : List (Option Entry)). IsHistoryIn meaning new history settings
    table) (sym same.settings) (sym same.table) is in
    record {
      serves = it.serves;
      registered = it.registered;
      area_good = it.area_good;
      nodes = it.nodes;
      good = it.good;
      is_left = it.is_left;
    }

-- the event is one of the group, and the code stands for what it leaves
pub grows : (meaning : Meaning) (old new : GroupState) (history : History) (event : GroupEvent) → IsSameJob old new
    → IsHistory meaning old history
    → IsGroupEvent (job_in meaning old.world) history.area (left_by meaning old history) event
    → IsOf new history.area (group_does (job_in meaning old.world) history.area (left_by meaning old history) event).1
    → IsHistory meaning new (grown history event)
grows meaning old new history event same is may left =
    history_in meaning old new (grown history event) same (record {
      serves = is.serves;
      registered = is.registered;
      area_good = is.area_good;
      nodes = is.nodes;
      good = good_more (job_in meaning old.world) history.area (opening_group old.world.settings) history.events event
          is.good may;
      is_left = subst (IsOf new history.area)
          (sym (after_more (job_in meaning old.world) history.area (opening_group old.world.settings) history.events
          event)) left;
    })

-- nothing happened to the group
pub stays : (meaning : Meaning) (old new : GroupState) (history : History) → IsSameJob old new
    → IsHistory meaning old history → IsOf new history.area (left_by meaning old history)
    → IsHistory meaning new history
stays meaning old new history same is left = history_in meaning old new history same (record {
  serves = is.serves;
  registered = is.registered;
  area_good = is.area_good;
  nodes = is.nodes;
  good = is.good;
  is_left = left;
})

-- ---- the calls

pub start_grows : (meaning : Meaning) (old new : GroupState) (event : GroupEvent) (answer : StartAnswer)
    → IsSameJob old new
    → ((area : Area) (group : Group) → IsGroupEvent (job_in meaning old.world) area group event)
    → DoesStart meaning old event answer new → GrowsByStart meaning old event answer new
start_grows meaning old new event start_answers.NoMemory same may does =
    λ history is. stays meaning old new history same is
    (is.is_left.0, does history.area (left_by meaning old history) is.is_left.0 is.is_left.1)
start_grows meaning old new event start_answers.Started same may does = λ history is.
    grows meaning old new history event same is (may history.area (left_by meaning old history))
    (_, (does history.area (left_by meaning old history) is.is_left.0 is.is_left.1).1)
start_grows meaning old new event start_answers.Busy same may does = λ history is.
    grows meaning old new history event same is (may history.area (left_by meaning old history))
    (_, (does history.area (left_by meaning old history) is.is_left.0 is.is_left.1).1)
start_grows meaning old new event (start_answers.BadArg argument) same may does = λ history is.
    grows meaning old new history event same is (may history.area (left_by meaning old history))
    (_, (does history.area (left_by meaning old history) is.is_left.0 is.is_left.1).1)
start_grows meaning old new event start_answers.Exhausted same may does = λ history is.
    grows meaning old new history event same is (may history.area (left_by meaning old history))
    (_, (does history.area (left_by meaning old history) is.is_left.0 is.is_left.1).1)
start_grows meaning old new event (start_answers.Forbidden forbidden) same may does = λ history is.
    grows meaning old new history event same is (may history.area (left_by meaning old history))
    (_, (does history.area (left_by meaning old history) is.is_left.0 is.is_left.1).1)
start_grows meaning old new event (start_answers.LockBusy lock) same may does = λ history is.
    grows meaning old new history event same is (may history.area (left_by meaning old history))
    (_, (does history.area (left_by meaning old history) is.is_left.0 is.is_left.1).1)

pub step_grows : (meaning : Meaning) (old new : GroupState) (trying : ℕ → GroupEvent) (answer : StepAnswer)
    → IsSameJob old new
    → ((among : ℕ) → among ≤ old.world.settings.nodes → (area : Area) (group : Group)
    → IsGroupEvent (job_in meaning old.world) area group (trying among))
    → DoesStep meaning old trying answer new → GrowsByStep meaning old trying answer new
step_grows meaning old new trying step_answers.NoMemory same may does = λ history is.
    let left = does history.area (left_by meaning old history) is.is_left.0 is.is_left.1 in (
      left.0,
      left.1,
      grows meaning old new history (trying left.0) same is (may left.0 left.1 history.area (left_by meaning old history))
          (_, left.2),
    )
step_grows meaning old new trying (step_answers.Sent to) same may does = λ history is.
    grows meaning old new history (trying old.world.settings.nodes) same is
    (may old.world.settings.nodes (omega arith) history.area (left_by meaning old history))
    (_, (does history.area (left_by meaning old history) is.is_left.0 is.is_left.1).1)
step_grows meaning old new trying step_answers.Nothing same may does = λ history is.
    grows meaning old new history (trying old.world.settings.nodes) same is
    (may old.world.settings.nodes (omega arith) history.area (left_by meaning old history))
    (_, (does history.area (left_by meaning old history) is.is_left.0 is.is_left.1).1)
step_grows meaning old new trying (step_answers.Forbidden forbidden) same may does = λ history is.
    grows meaning old new history (trying old.world.settings.nodes) same is
    (may old.world.settings.nodes (omega arith) history.area (left_by meaning old history))
    (_, (does history.area (left_by meaning old history) is.is_left.0 is.is_left.1).1)

-- an event of the world
pub beside_grows : (meaning : Meaning) (old new : GroupState) (event : EventAt OtherCall) (answer : WorldAnswer)
    → IsSameJob old new → new.nodes ≡ old.nodes
    → StepsInWorld meaning old.world (transition event.now event.event answer) new.world
    → GrowsBeside meaning old event answer new
beside_grows meaning old new event (world_answers.Node one) same nodes steps = λ history is may.
    let group = left_by meaning old history in
    let left = is.is_left in
    grows meaning old new history (Other event) same is may (
      most_then old.world.settings (world_after (job_in meaning old.world) group.records event) left.0,
      record {
        world = (steps group.records left.0 left.1.world).1;
        nodes = subst (AreAsFar history.area group.progress) (sym nodes) left.1.nodes;
      },
    )
beside_grows meaning old new event world_answers.Unsent same nodes steps = λ history is may.
    let group = left_by meaning old history in
    let left = is.is_left in
    grows meaning old new history (Other event) same is may (
      most_then old.world.settings (world_after (job_in meaning old.world) group.records event) left.0,
      record {
        world = (steps group.records left.0 left.1.world).1;
        nodes = subst (AreAsFar history.area group.progress) (sym nodes) left.1.nodes;
      },
    )
beside_grows meaning old new event world_answers.NoMemory same nodes steps = λ history is.
    let group = left_by meaning old history in
    let left = is.is_left in
    stays meaning old new history same is (
      left.0,
      record {
        world = steps.1 group.records left.0 left.1.world;
        nodes = subst (AreAsFar history.area group.progress) (sym nodes) left.1.nodes;
      },
    )

-- nothing happened yet
pub opens : (meaning : Meaning) (it : GroupState) (settings : Parameters) (table : List (Option Entry)) (area : Area)
    → it.world.settings ≡ settings → it.world.table ≡ table → ServesCollectives meaning → HasCollectives table
    → IsArea settings.segment area → area.nodes ≡ settings.nodes → IsOf it area (opening_group settings)
    → IsHistory meaning it (record { area = area; events = [] })
opens meaning it settings table area settings_are table_is serves registered good nodes opened =
    let is = subst₂ (λ (s : Parameters) (t : List (Option Entry)). IsHistoryIn meaning it
    (record { area = area; events = [] }) s t) (sym settings_are) (sym table_is) (record {
      serves = serves;
      registered = registered;
      area_good = good;
      nodes = nodes;
      good = tt;
      is_left = opened;
    }) in
    record {
      serves = is.serves;
      registered = is.registered;
      area_good = is.area_good;
      nodes = is.nodes;
      good = is.good;
      is_left = is.is_left;
    }

-- ---- the law of results

-- what holds of each job with such an area
pub law_of : (meaning : Meaning) (settings : Parameters) (table : List (Option Entry)) (area : Area)
    → AreInRange settings → IsLawfulMeaning meaning → HasCollectives table → ServesCollectives meaning
    → IsArea settings.segment area → area.nodes ≡ settings.nodes
    → CollectivesHold (job_of settings table meaning) area
law_of meaning settings table area range lawful registered serves good nodes =
    collectives_hold settings table meaning area range lawful registered serves good nodes

pub tells : (meaning : Meaning) (old new : GroupState) (at : TriedAt) (answer : EndAnswer) → IsLawfulMeaning meaning
    → Does meaning old (End at.now at.node at.thread at.dest) (OfEnd answer) new → (history : History)
    (is : IsHistory meaning old history) (there : at.node < old.world.settings.nodes)
    → TellsResult (try_behind meaning old history at is there) answer
tells meaning old new at answer lawful does history is there = by_answer answer answered
  where
    law : CollectivesHold (job_in meaning old.world) history.area
    law =
        law_of meaning old.world.settings old.world.table history.area is.is_left.1.world.range lawful is.registered
        is.serves is.area_good is.nodes

    answered : OfEnd answer
        ≡ (group_does (job_in meaning old.world) history.area (left_by meaning old history)
        (End at.now at.node at.thread at.dest)).0
    answered = (does history.area (left_by meaning old history) is.is_left.0 is.is_left.1).0

    by_answer : (one : EndAnswer) → OfEnd one
        ≡ (group_does (job_in meaning old.world) history.area (left_by meaning old history)
        (End at.now at.node at.thread at.dest)).0
        → TellsResult (try_behind meaning old history at is there) one
    by_answer end_answers.Ended same = law.ok (try_behind meaning old history at is there) (sym same)
    by_answer (end_answers.Mismatch other) same =
        law.apart (try_behind meaning old history at is there) other (sym same)
    by_answer end_answers.NotReady same = tt
    by_answer end_answers.NotStarted same = tt
    by_answer (end_answers.BadArg argument) same = tt
    by_answer (end_answers.Exhausted other) same = tt
    by_answer (end_answers.Forbidden forbidden) same = tt
    by_answer end_answers.NoMemory same = tt
