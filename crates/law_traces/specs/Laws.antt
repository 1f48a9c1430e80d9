-- What holds of turns, and of orders of entries in which each can go.
-- Origin: this project's profile.
use Rattle.std.specs.Prelude.{ℕ, ◌≡◌, ◌≤◌, true, false, List, [], Option, None, Some, length, map}
use Rattle.std.specs.Prelude.{slice_get}
use Rattle.wire_message.specs.Parameters.{Parameters, AreInRange}
use Rattle.wire_message.specs.Content.{is_version}
use Rattle.part_handlers.specs.declared.table.Entry.{Entry as TableEntry}
use Rattle.part_handlers.specs.Runs.{Meaning, IsLawfulMeaning}
use Rattle.spec_node.specs.Record.{Node as Record}
use Rattle.spec_network.specs.World.{EventAt}
use Rattle.node_rules.specs.EndpointLocal.{EndpointLocal, IsEndpointKept}
use Rattle.node_rules.specs.EndpointRules.{OtherCall, RecordEvent, job_of}
use Rattle.node_rules.specs.declared.answer.Answer.{Answer}
use Rattle.base_turns.specs.declared.entry.Entry.{Entry}
use Rattle.base_turns.specs.Prefixes.{Node, start, full, Reaches}
use Rattle.base_turns.specs.Replay.{Steps}
use Rattle.law_traces.specs.Scripts.{NodeJob, TryContext}
use Rattle.law_traces.specs.Turn.{MachineState, turn_events}
use Rattle.law_traces.specs.Outgoing.{StaysWell, ComesFirst, SentStands}
use Rattle.law_traces.specs.Actions.{Reading, OwnScripts, scripts_of, ActionsMay}
use Rattle.law_traces.specs.Order.{RankedMachine, job_steps, NodeEntry, own_entries, GoInOrder}
use Rattle.law_traces.specs.Merged.{nodes_from, order_of, Carries, with_machine_of}
use Rattle.law_traces.specs.Fitting.{AreBytes, KeptFits, CallFits, CollectivesFit, IsFittingJob}
use Rattle.law_traces.specs.WorldRun.{IsWorldRun, endpoint_job, opening_machines}

-- of a job of endpoints whose scripts' actions are read so, and the scripts of each of its nodes: numbers fit their
-- places, and each call of an action is one that may be made
pub record MayRun
    {Action : Type 0} (settings : Parameters) (table : List (Option TableEntry)) (meaning : Meaning)
    (form : Reading EndpointLocal Action) (own : ℕ → OwnScripts Action) : Type 0 where
  pub job : IsFittingJob settings table meaning
  pub actions : (node : ℕ) → ActionsMay KeptFits CallFits CollectivesFit form (own node)

-- entries in an order in which each can go are a run of the world
abbrev pub IsOrderARun : {Action : Type 0} → Reading EndpointLocal Action → Type 0
IsOrderARun {Action} form =
    (settings : Parameters) (table : List (Option TableEntry)) (meaning : Meaning) (own : ℕ → OwnScripts Action)
    (items : List NodeEntry)
    → MayRun settings table meaning form own
    → GoInOrder (endpoint_job settings table meaning (scripts_of form)) (opening_machines settings own) [] items
    → (turns : List (List (EventAt OtherCall)))
    × IsWorldRun settings table meaning (scripts_of form) own items turns

-- the nodes of a job of endpoints with these traces
abbrev pub nodes_with : {Action : Type 0}
    → Parameters → (ℕ → OwnScripts Action) → (traces : List (List Entry))
    → List (Node (RankedMachine EndpointLocal (OwnScripts Action)))
nodes_with settings own traces = nodes_from (opening_machines settings own) 0 traces

-- the order of their entries that this list of nodes gives
abbrev pub merged_order : {Action : Type 0}
    → Parameters → (ℕ → OwnScripts Action) → (traces : List (List Entry)) → (list : List ℕ) → List NodeEntry
merged_order settings own traces list =
    order_of (nodes_with settings own traces) (start (nodes_with settings own traces)) list

-- where a list of nodes reaches the prefix that has all entries, they are a run of the world in its order, and the
-- entries of each node in it are the node's trace
abbrev pub IsMergeARun : {Action : Type 0} → Reading EndpointLocal Action → Type 0
IsMergeARun {Action} form =
    (settings : Parameters) (table : List (Option TableEntry)) (meaning : Meaning) (own : ℕ → OwnScripts Action)
    (traces : List (List Entry)) (list : List ℕ)
    → MayRun settings table meaning form own
    → length traces ≤ settings.nodes
    → Reaches (job_steps (endpoint_job settings table meaning (scripts_of form))) (nodes_with settings own traces) list
    (full (nodes_with settings own traces))
    → (turns : List (List (EventAt OtherCall)))
    × IsWorldRun settings table meaning (scripts_of form) own (merged_order settings own traces list) turns
    × ((node : ℕ) (trace : List Entry) → slice_get traces node ≡ Some trace
    → own_entries node (merged_order settings own traces list) ≡ trace)

-- the same where the machines are states with more in them, of which is known what is known of the machines
abbrev pub AreStatesARun : {Action State : Type 0}
    → Reading EndpointLocal Action → (become : RankedMachine EndpointLocal (OwnScripts Action) → State) → Steps State
    → Type 0
AreStatesARun {Action} {State} form become steps =
    (settings : Parameters) (table : List (Option TableEntry)) (meaning : Meaning) (own : ℕ → OwnScripts Action)
    (traces : List (List Entry)) (list : List ℕ)
    → MayRun settings table meaning form own
    → length traces ≤ settings.nodes
    → Carries become (job_steps (endpoint_job settings table meaning (scripts_of form))) steps
    → let nodes = map (with_machine_of become) (nodes_with settings own traces) in
    Reaches steps nodes list (full nodes)
    → (turns : List (List (EventAt OtherCall)))
    × IsWorldRun settings table meaning (scripts_of form) own (order_of nodes (start nodes) list) turns
    × ((node : ℕ) (trace : List Entry) → slice_get traces node ≡ Some trace
    → own_entries node (order_of nodes (start nodes) list) ≡ trace)

-- ---- turns

-- what was got are bytes
abbrev pub GotBytes : Option (List ℕ) → Type 0
GotBytes None = Unit {0}
GotBytes (Some bytes) = AreBytes bytes

-- at most the first event of a turn is a delivery, and then that of a message
abbrev pub TurnsComeFirst : (Own : Type 0) → Type 0
TurnsComeFirst Own =
    (job : NodeJob EndpointLocal Own) (me thread now : ℕ) (state : MachineState EndpointLocal Own)
    (got : Option (List ℕ))
    → is_version job.job.settings.version ≡ true → GotBytes got
    → ComesFirst (turn_events job me state thread now got)

-- what such events send stands in its slots after them
abbrev pub TheySentStands : Type 0
TheySentStands =
    (settings : Parameters) (table : List (Option TableEntry)) (meaning : Meaning) (me now : ℕ)
    (events : List RecordEvent) (node : Record EndpointLocal)
    → AreInRange settings → IsLawfulMeaning meaning → ComesFirst events
    → StaysWell (job_of settings table meaning) (IsEndpointKept settings) me now events node
    → SentStands (job_of settings table meaning) me now events node

-- a try that ends and begins nothing leaves the scripts
abbrev pub WaitingLeaves : {Action : Type 0} → Reading EndpointLocal Action → Type 0
WaitingLeaves {Action} form =
    (at : TryContext) (own : OwnScripts Action) (before after : Record EndpointLocal) (answer : Option Answer)
    → ((scripts_of form).tried at own before after answer).ended ≡ None
    → ((scripts_of form).tried at own before after answer).began ≡ false
    → ((scripts_of form).tried at own before after answer).left ≡ own
