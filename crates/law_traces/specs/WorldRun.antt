-- What it means that the entries of traces, in an order, are a run of the world.
-- Origin: this project's profile.
use Rattle.std.specs.Prelude.{ℕ, ◌≡◌, not, List, [], ◌∷◌, ◌++◌, map, Option, None, Some}
use Rattle.std.specs.List.{AllByRecursion}
use Rattle.wire_message.specs.Content.{Spells}
use Rattle.wire_message.specs.Message.{Message}
use Rattle.wire_message.specs.Parameters.{Parameters}
use Rattle.part_handlers.specs.declared.lock_answer.Owner.TheVariants as owner
use Rattle.part_handlers.specs.Locks.{holds}
use Rattle.part_handlers.specs.declared.table.Entry.{Entry as TableEntry}
use Rattle.part_handlers.specs.Runs.{Meaning}
use Rattle.spec_node.specs.NodeStep.{Job, NodeEvent, Comes}
use Rattle.spec_network.specs.World.{World, EventAt, OfNode, falls, world_after, run, answers_of, IsAmong}
use Rattle.spec_network.specs.Sent.{datagrams_sent}
use Rattle.spec_network.specs.Headline.{Headline, IsGreatest}
use Rattle.node_rules.specs.EndpointLocal.{EndpointLocal, nothing_begun}
use Rattle.node_rules.specs.EndpointRules.{OtherCall, at_the_opening, job_of}
use Rattle.law_transfers.specs.TransferLaws.{TransfersHold}
use Rattle.law_barrier.specs.BarrierLaws.{BarrierHolds}
use Rattle.law_traces.specs.Scripts.{Scripts, NodeJob}
use Rattle.law_traces.specs.Turn.{datagram}
use Rattle.law_traces.specs.Order.{NodeEntry, Machines, replay, own_entries, turn_of, after_entry, given_by_all}
use Rattle.law_traces.specs.Order.{answers_by_all, at_first}
use Rattle.law_traces.specs.Most.{most_in}

-- ---- a turn

-- these events of the world are, one after another, the events of the node at that time: each falls on it as that event
abbrev pub AreEvents : {Local Call Told : Type 0}
    → Job Local Call Told → World Local → (node now : ℕ) → List (NodeEvent Call) → List (EventAt Call) → Type 0
AreEvents job world node now [] [] = Unit {0}
AreEvents job world node now (event ∷ events) (timed ∷ rest) =
    (timed.now ≡ now) × (falls job.settings world timed.event ≡ Some (record { node = node; event = event }))
    × AreEvents job (world_after job world timed) node now events rest
AreEvents job world node now _ _ = ⊥

-- where a turn of the node got a datagram, the first of its events delivers the message that the datagram spells. So it
-- is the delivery of a request that was accepted, or of the reply of a run, to that node
abbrev pub Brings : {Local Call : Type 0}
    → Parameters → World Local → (node : ℕ) → (got : Option (List ℕ)) → List (EventAt Call) → Type 0
Brings settings world node None events = Unit {0}
Brings settings world node (Some bytes) [] = ⊥
Brings settings world node (Some bytes) (timed ∷ rest) =
    (message : Message) × Spells message bytes
    × (falls settings world timed.event ≡ Some (record { node = node; event = Comes message }))

-- these events of the world are the turn of that entry
pub record IsTurn
    {Kept Own : Type 0} (job : NodeJob Kept Own) (machines : Machines Kept Own) (world : World Kept) (item : NodeEntry)
    (happened : List (EventAt OtherCall)) : Type 0 where
  pub among : AllByRecursion (λ (timed : EventAt OtherCall). IsAmong job.job.settings timed.event) happened
  pub events : AreEvents job.job world item.node item.entry.now (turn_of job machines item).events happened
  pub brings : Brings job.job.settings world item.node item.entry.got happened
  pub answers : answers_of job.job happened world ≡ map OfNode (turn_of job machines item).answers
  pub sends : datagrams_sent job.job happened world ≡ (turn_of job machines item).packets

-- the turns of these entries, one after another
abbrev pub AreTurns : {Kept Own : Type 0} → NodeJob Kept Own → Machines Kept Own → World Kept → List NodeEntry
    → (turns : List (List (EventAt OtherCall))) → Type 0
AreTurns job machines world [] [] = Unit {0}
AreTurns job machines world (item ∷ items) (events ∷ turns) =
    IsTurn job machines world item events
    × AreTurns job (after_entry job machines item) (run job.job events world) items turns
AreTurns job machines world _ _ = ⊥

-- all events of the turns
abbrev pub joined_events : {X : Type 0} → List (List X) → List X
joined_events [] = []
joined_events (xs ∷ more) = xs ++ joined_events more

-- ---- a run

-- a job of endpoints: a thread polls where it holds no lock
abbrev pub endpoint_job : {Own : Type 0}
    → Parameters → List (Option TableEntry) → Meaning → Scripts EndpointLocal Own → NodeJob EndpointLocal Own
endpoint_job settings table meaning scripts = record {
  job = job_of settings table meaning;
  table = table;
  meaning = meaning;
  polls = λ thread local. not (holds (owner.Thread thread) local.core.locks);
  scripts = scripts;
}

-- the machines of its nodes before all entries, where their scripts are these
abbrev pub opening_machines : {Own : Type 0} → Parameters → (ℕ → Own) → Machines EndpointLocal Own
opening_machines settings own = at_first (at_the_opening settings) own

-- of these entries in this order, and of the events of their turns: they are a run of the world from its opening
pub record IsWorldRun
    {Own : Type 0} (settings : Parameters) (table : List (Option TableEntry)) (meaning : Meaning)
    (scripts : Scripts EndpointLocal Own) (own : ℕ → Own) (items : List NodeEntry)
    (turns : List (List (EventAt OtherCall))) : Type 0 where
  pub turns_are : AreTurns (endpoint_job settings table meaning scripts) (opening_machines settings own)
      (at_the_opening settings) items turns
  pub among : AllByRecursion (λ (timed : EventAt OtherCall). IsAmong settings timed.event) (joined_events turns)
  -- it leaves each node the record that its machine's replay of its own entries has
  pub nodes : (node : ℕ)
      → run (job_of settings table meaning) (joined_events turns) (at_the_opening settings) node
      ≡ (replay (endpoint_job settings table meaning scripts) node (opening_machines settings own node)
      (own_entries node items)).node
  -- the most that the node held after any event is the most that its machine held after an entry of its own
  pub most : (node : ℕ)
      → IsGreatest (job_of settings table meaning) (joined_events turns) (at_the_opening settings) node
      (most_in (endpoint_job settings table meaning scripts) node (opening_machines settings own node)
      (own_entries node items) 0)
  -- its answers are those of the machines' events, and what was sent in it are the machines' datagrams
  pub answers : answers_of (job_of settings table meaning) (joined_events turns) (at_the_opening settings)
      ≡ map OfNode (answers_by_all (endpoint_job settings table meaning scripts) (opening_machines settings own) items)
  pub sent_is : map (datagram settings)
      (datagrams_sent (job_of settings table meaning) (joined_events turns) (at_the_opening settings))
      ≡ given_by_all (endpoint_job settings table meaning scripts) (opening_machines settings own) items
  -- so all that holds of every run of the world holds of it: the headline, and the laws of transfers and of the barrier
  pub headline : Headline (job_of settings table meaning) (λ node. nothing_begun settings) (joined_events turns)
  pub transfers : TransfersHold settings table meaning
  pub barrier : BarrierHolds settings table meaning
