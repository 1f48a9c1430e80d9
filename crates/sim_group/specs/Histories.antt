-- What happened to a group of the code from its opening on, and what its calls tell of that.
use Rattle.std.specs.Prelude.{ℕ, ◌≡◌, ◌≤◌, ◌<◌, List, [], ◌∷◌, ◌++◌}
use Rattle.part_handlers.specs.Runs.{Meaning, IsLawfulMeaning}
use Rattle.node_rules.specs.EndpointRules.{OtherCall}
use Rattle.spec_network.specs.World.{EventAt}
use Rattle.sim_world.specs.Events.{job_in}
use Rattle.sim_world.specs.declared.event.WorldAnswer.{WorldAnswer}
use Rattle.sim_world.specs.declared.event.WorldAnswer.TheVariants as world_answers
use Rattle.law_transfers.specs.Chunks.{EndpointJob}
use Rattle.part_collective_area.specs.Area.{Area, IsArea}
use Rattle.part_collective_area.specs.Served.{HasCollectives, ServesCollectives}
use Rattle.node_collectives.specs.declared.answers.EndAnswer.{EndAnswer}
use Rattle.node_collectives.specs.declared.answers.EndAnswer.TheVariants as end_answers
use Rattle.node_collectives.specs.declared.answers.StartAnswer.{StartAnswer}
use Rattle.node_collectives.specs.declared.answers.StartAnswer.TheVariants as start_answers
use Rattle.node_collectives.specs.declared.answers.StepAnswer.{StepAnswer}
use Rattle.node_collectives.specs.declared.answers.StepAnswer.TheVariants as step_answers
use Rattle.law_collectives.specs.Groups.{AreGroupEvents, Group, GroupEvent, IsGroupEvent, Other, group_after}
use Rattle.law_collectives.specs.Groups.{opening_group}
use Rattle.law_collectives.specs.CollectiveLaws.{CollectivesHold, EndsApart, EndsOk, Try}
use Rattle.sim_group.specs.GroupState.{GroupState}
use Rattle.sim_group.specs.Standing.{IsOf}

-- the area of its collectives, and its events in their order
pub record History : Type 0 where
  pub area : Area
  pub events : List GroupEvent

-- with one event more
abbrev pub grown : History → GroupEvent → History
grown history event = record { area = history.area; events = history.events ++ event ∷ [] }

-- the group that they leave of one in which nothing happened, by handlers that mean this
abbrev pub left_by : Meaning → GroupState → History → Group
left_by meaning it history =
    group_after (job_in meaning it.world) history.area (opening_group it.world.settings) history.events

-- These events happened to it from its opening on, and nothing else; its handlers mean this, and serve collectives. The
-- areas were written by collectives alone, and nobody else called their handler.
pub record IsHistory (meaning : Meaning) (it : GroupState) (history : History) : Type 0 where
  pub serves : ServesCollectives meaning
  pub registered : HasCollectives it.world.table
  pub area_good : IsArea it.world.settings.segment history.area
  pub nodes : history.area.nodes ≡ it.world.settings.nodes
  pub good : AreGroupEvents (job_in meaning it.world) history.area (opening_group it.world.settings) history.events
  pub is_left : IsOf it history.area (left_by meaning it history)

-- ---- what a call adds

-- each history goes on by the event
abbrev pub Grows : Meaning → GroupState → GroupEvent → GroupState → Type 0
Grows meaning old event new =
    (history : History) → IsHistory meaning old history → IsHistory meaning new (grown history event)

-- each history stays
abbrev pub Stays : Meaning → GroupState → GroupState → Type 0
Stays meaning old new = (history : History) → IsHistory meaning old history → IsHistory meaning new history

-- an event of the world that is one of a group: the areas are written by collectives alone, and nobody else calls
-- their handler
abbrev pub GrowsBeside : Meaning → GroupState → EventAt OtherCall → WorldAnswer → GroupState → Type 0
GrowsBeside meaning old event world_answers.NoMemory new = Stays meaning old new
GrowsBeside meaning old event answer new =
    (history : History) → IsHistory meaning old history
    → IsGroupEvent (job_in meaning old.world) history.area (left_by meaning old history) (Other event)
    → IsHistory meaning new (grown history (Other event))

abbrev pub GrowsByStart : Meaning → GroupState → GroupEvent → StartAnswer → GroupState → Type 0
GrowsByStart meaning old event start_answers.NoMemory new = Stays meaning old new
GrowsByStart meaning old event answer new = Grows meaning old event new

abbrev pub GrowsByStep : Meaning → GroupState → (ℕ → GroupEvent) → StepAnswer → GroupState → Type 0
GrowsByStep meaning old trying step_answers.NoMemory new =
    (history : History) → IsHistory meaning old history
    → (among : ℕ) × (among ≤ old.world.settings.nodes) × IsHistory meaning new (grown history (trying among))
GrowsByStep meaning old trying answer new = Grows meaning old (trying old.world.settings.nodes) new

-- ---- the law of results

-- a try to end of a thread of a node, at a time
pub record TriedAt : Type 0 where
  pub now : ℕ
  pub node : ℕ
  pub thread : ℕ
  pub dest : ℕ

-- the try, after the events of a history
abbrev pub try_behind : (meaning : Meaning) (it : GroupState) (history : History) (at : TriedAt)
    → IsHistory meaning it history → at.node < it.world.settings.nodes → Try (job_in meaning it.world) history.area
try_behind meaning it history at is there = record {
  events = history.events;
  good = is.good;
  now = at.now;
  node = at.node;
  there = there;
  thread = at.thread;
  dest = at.dest;
}

-- Ended: all nodes started the phase with one shape, and the node has its result at `dest`. Mismatch: all started it,
-- and this is the first node whose shape isn't the local one
abbrev pub TellsResult : {job : EndpointJob} {area : Area} → Try job area → EndAnswer → Type 0
TellsResult try end_answers.Ended = EndsOk try
TellsResult try (end_answers.Mismatch other) = EndsApart try other
TellsResult try answer = Unit {0}

-- so it is whatever happened to the group before
abbrev pub TellsOfHistory : Meaning → GroupState → TriedAt → EndAnswer → Type 0
TellsOfHistory meaning old at answer =
    (history : History) (is : IsHistory meaning old history) (there : at.node < old.world.settings.nodes)
    → TellsResult (try_behind meaning old history at is there) answer

-- so it is in each run from here, by any lawful handlers that serve collectives
abbrev pub RunsHaveCollectives : GroupState → Area → Type 0
RunsHaveCollectives it area =
    (meaning : Meaning) → IsLawfulMeaning meaning → ServesCollectives meaning
    → CollectivesHold (job_in meaning it.world) area
