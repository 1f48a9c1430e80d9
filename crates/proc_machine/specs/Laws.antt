-- The traces of the nodes of a job that was read, in an order in which they can go, are a run of the world.
-- Origin: this project's profile.
use Rattle.std.specs.Prelude.{ℕ, ◌≡◌, ◌≤◌, List, length, map, Some, slice_get}
use Rattle.std.specs.Option.{option_map}
use Rattle.base_turns.specs.declared.entry.Entry.{Entry}
use Rattle.base_turns.specs.Prefixes.{Node, start, full, Reaches}
use Rattle.base_turns.specs.Replay.{replay_state}
use Rattle.spec_network.specs.World.{EventAt}
use Rattle.node_rules.specs.EndpointRules.{OtherCall}
use Rattle.text_job.specs.JobText.{IsJob}
use Rattle.text_job.specs.declared.job.Job.{Job as JobState}
use Rattle.text_script.specs.Bodies.{script_meaning}
use Rattle.text_script.specs.Registration.{handlers_of, registry_of}
use Rattle.law_traces.specs.Actions.{scripts_of}
use Rattle.law_traces.specs.Laws.{nodes_with}
use Rattle.law_traces.specs.Merged.{with_machine_of, order_of}
use Rattle.law_traces.specs.Order.{NodeEntry, own_entries, replay}
use Rattle.law_traces.specs.WorldRun.{IsWorldRun, opening_machines}
use Rattle.proc_steps.specs.Forms.{step_form}
use Rattle.proc_machine.specs.NodeState.{NodeState, state_of, script_job, scripts_at, state_steps, opening_state}

-- the nodes of a job before all turns, each with its trace: the node of rank i is in its opening state
abbrev pub nodes_of_job : JobState → (traces : List (List Entry)) → List (Node NodeState)
nodes_of_job job traces = map (with_machine_of (state_of job)) (nodes_with job.settings (scripts_at job) traces)

-- the node of this rank before all turns, with its trace
abbrev pub opening_node : JobState → (me : ℕ) → (trace : List Entry) → Node NodeState
opening_node job me trace = record { state = opening_state job me; entries = trace }

-- so each of them is, of which there is a trace
abbrev pub NodesOpen : Type 0
NodesOpen =
    (job : JobState) (traces : List (List Entry)) (node : ℕ)
    → slice_get (nodes_of_job job traces) node ≡ option_map (opening_node job node) (slice_get traces node)

-- the state after the entries of a trace is the replay of the node's record and scripts by `law_traces`, in which what a
-- run of the world leaves each node is told
abbrev pub StatesReplay : Type 0
StatesReplay =
    (job : JobState) (me : ℕ) (entries : List Entry)
    → (replay_state state_steps (opening_state job me) entries).ranked.state
    ≡ replay (script_job job) me (opening_machines job.settings (scripts_at job) me) entries

-- the order of the entries that a list of ranks gives
abbrev pub order_by : JobState → (traces : List (List Entry)) → (ranks : List ℕ) → List NodeEntry
order_by job traces ranks = order_of (nodes_of_job job traces) (start (nodes_of_job job traces)) ranks

-- these entries, in this order, are a run of the job's world, whose turns are these events
abbrev pub IsRunOf : JobState → List NodeEntry → (turns : List (List (EventAt OtherCall))) → Type 0
IsRunOf job items turns =
    IsWorldRun job.settings (registry_of (handlers_of job)).table (script_meaning (handlers_of job))
    (scripts_of step_form) (scripts_at job) items turns

-- of a job that a text says: where a list of ranks reaches the prefix that has all entries of the nodes' traces, they
-- are a run of the world in its order, and the entries of each node in it are the node's trace
abbrev pub AreTracesARun : Type 0
AreTracesARun =
    (job : JobState) (traces : List (List Entry)) (ranks : List ℕ)
    → IsJob job → length traces ≤ job.settings.nodes
    → Reaches state_steps (nodes_of_job job traces) ranks (full (nodes_of_job job traces))
    → (turns : List (List (EventAt OtherCall)))
    × IsRunOf job (order_by job traces ranks) turns
    × ((node : ℕ) (trace : List Entry) → slice_get traces node ≡ Some trace
    → own_entries node (order_by job traces ranks) ≡ trace)
