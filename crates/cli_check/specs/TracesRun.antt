-- Traces of the nodes of a job that are a run of the world, and those that are none.
-- Origin: this project's profile. What holds of the run is that of GASNet 1.8.1, as the records of nodes have it.
use Rattle.std.specs.Prelude.{◌≡◌, ◌+◌, ℕ, List, length, map, Some, slice_get, slice_index, IsSomeAnd}
use Rattle.std.specs.Option.{ForSome}
use Rattle.node_endpoint.specs.EndpointState.{EndpointState, EndpointStands, IsNodeOf}
use Rattle.text_trace.specs.Merged.{IsFirstLeft}
use Rattle.text_trace.specs.declared.trace.Trace.{Trace}
use Rattle.text_job.specs.declared.job.Job.{Job as JobState}
use Rattle.base_turns.specs.declared.entry.Entry.{Entry}
use Rattle.base_turns.specs.Prefixes.{Node, IsRun, IsStuck, Reaches, full}
use Rattle.proc_machine.specs.Laws.{IsRunOf, nodes_of_job, order_by}
use Rattle.proc_machine.specs.NodeState.{NodeState, state_steps}
use Rattle.law_traces.specs.Order.{own_entries}
use Rattle.text_script.specs.Registration.{handlers_of, registry_of}
use Rattle.node_rules.specs.EndpointRules.{OtherCall}
use Rattle.spec_network.specs.World.{EventAt}
use Rattle.cli_check.specs.Machines.{last_record}
use Rattle.cli_check.specs.StepsTold.{LinesTell}

-- the entries of each trace
abbrev pub entries_of : List Trace → List (List Entry)
entries_of traces = map (λ trace. trace.entries) traces

-- the nodes of the job before all turns, each with its trace
abbrev pub first_nodes : JobState → List Trace → List (Node NodeState)
first_nodes job traces = nodes_of_job job (entries_of traces)

-- the traces are a run: in some order each of their entries can go in its turn
abbrev pub AreARun : JobState → List Trace → Type 0
AreARun job traces = IsRun state_steps (first_nodes job traces)

-- they are none. At the one prefix that is reached and where entries are left, but none can go, this node is the
-- smallest with an entry left, and this is the number of that entry, counted from 1
pub record AreNoRun (job : JobState) (traces : List Trace) (node entry : ℕ) : Type 0 where
  pub prefix : List ℕ
  pub stuck : IsStuck state_steps (first_nodes job traces) prefix
  pub first : IsFirstLeft (first_nodes job traces) prefix node
  pub entry_is : entry ≡ slice_index prefix node + 1
  pub none : AreARun job traces → ⊥

-- they are one: the entries, in the order of these ranks, are a run of the job's world, with all that holds of every
-- run of it (`IsWorldRun` of `law_traces`): the headline, the laws of transfers and of the barrier. The entries of each
-- node in it are its trace. Each line of its steps tells how its step ended in the run
pub record RunOfTraces (job : JobState) (traces : List Trace) : Type 0 where
  pub ranks : List ℕ
  pub reached : Reaches state_steps (first_nodes job traces) ranks (full (first_nodes job traces))
  pub turns : List (List (EventAt OtherCall))
  pub run : IsRunOf job (order_by job (entries_of traces) ranks) turns
  pub own : (rank : ℕ) (entries : List Entry) → slice_get (entries_of traces) rank ≡ Some entries
      → own_entries rank (order_by job (entries_of traces) ranks) ≡ entries
  pub lines : LinesTell job traces (record { items = order_by job (entries_of traces) ranks; turns = turns })

-- ---- its nodes

-- the endpoint is that node, after its trace
pub record IsNodeAfter (job : JobState) (rank : ℕ) (trace : Trace) (endpoint : EndpointState) : Type 0 where
  pub node : IsNodeOf job.settings (registry_of (handlers_of job)).table rank endpoint
  pub stands : EndpointStands endpoint (last_record job rank trace.entries)

-- they are the nodes of the job after their traces, in rising order of ranks
pub record AreNodesAfter (job : JobState) (traces : List Trace) (endpoints : List EndpointState) : Type 0 where
  pub count : length endpoints ≡ length traces
  pub each : (rank : ℕ) → ForSome (slice_get endpoints rank) (λ endpoint.
      IsSomeAnd (slice_get traces rank) (λ trace. IsNodeAfter job rank trace endpoint))

-- each is the node of its place
abbrev pub AreRanked : List EndpointState → Type 0
AreRanked endpoints =
    (rank : ℕ) → ForSome (slice_get endpoints rank) (λ endpoint. endpoint.core.me ≡ rank)
