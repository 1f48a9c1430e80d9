-- What the threads of a node of a job leave, and the lines of its trace.
-- Origin: this project's profile.
use Rattle.std.specs.Prelude.{◌≡◌, ℕ, ◌==◌, Bool, not, List}
use Rattle.base_io.specs.Buffered.{Outbox}
use Rattle.base_turns.specs.declared.entry.Entry.{Entry}
use Rattle.base_turns.specs.declared.turns.Machine.{Ghosts as MachineGhosts}
use Rattle.base_turns.specs.Replay.{replay_state}
use Rattle.part_handlers.specs.LogState.{log_of}
use Rattle.spec_node.specs.Record.{Node as Record}
use Rattle.node_rules.specs.EndpointLocal.{EndpointLocal}
use Rattle.text_job.specs.declared.job.Job.{Job as JobState}
use Rattle.proc_runner.specs.declared.ends.EndedStation.{EndedStation}
use Rattle.base_text.specs.LineTexts.{Line}
use Rattle.text_trace.specs.TraceText.{trace_lines}
use Rattle.proc_station.specs.declared.node.Node.{Node}
use Rattle.proc_station.specs.NodeRuns.{RunsOver, open_lines, trace_of}
use Rattle.proc_machine.specs.Kept.{MachineKept, are_done, polls_at}
use Rattle.proc_machine.specs.NodeState.{NodeState, NodeStands, after_turn, opening_state, polls_in, sent_datagrams}
use Rattle.proc_machine.specs.NodeState.{state_steps}
use Rattle.proc_machine.specs.NodeState.{turn_result}
use Rattle.proc_node.specs.Seen.{ClockSeen, DevicesSeen, IsBehind, LinkSeen, seen_clocks, seen_links, seen_recorders}
use Rattle.proc_node.specs.Seen.{behind_sieve}

-- a node of a job: its number, and the port of rank 0
pub record Post : Type 0 where
  pub job : JobState
  pub rank : ℕ
  pub port : ℕ

abbrev pub post_of : JobState → (rank port : ℕ) → Post
post_of job rank port = record { job = job; rank = rank; port = port }

-- the machines of nodes: their states are those of `proc_machine`
abbrev pub node_machines : MachineGhosts MachineKept
node_machines = record {
  State = NodeState;
  stands = NodeStands;
  thread_count = λ machine. machine.job.settings.threads;
  polls_at = polls_at;
  is_over = λ machine. are_done machine.scripts;
  polls_in = polls_in;
  after = after_turn;
  turned = turn_result;
  sent = sent_datagrams;
}

-- the node before it runs, with this machine, over these devices
abbrev pub node_at : Post → MachineKept → DevicesSeen → Node MachineKept LinkSeen ClockSeen
node_at post machine devices = record {
  settings = post.job.settings;
  address = record { rank = post.rank; port = post.port };
  machine = machine;
  link = behind_sieve devices.link;
  clock = devices.clock;
  patience = post.job.patience;
}

-- what the node's threads left after the turns of a journal, with its devices before and after
pub record NodeLeaves (post : Post) (before after : DevicesSeen) (journal : List Entry)
    (left : EndedStation MachineKept LinkSeen ClockSeen Outbox) : Type 0 where
  -- it began with a machine that stands for the node before all turns
  pub machine : MachineKept
  pub opens : NodeStands machine (opening_state post.job post.rank)
  -- its sink after the first lines of its trace
  pub opened : Outbox
  -- its threads ran over the link behind the job's sieve, or that couldn't be bound
  pub runs : RunsOver node_machines seen_links seen_clocks seen_recorders (node_at post machine before) opened journal
      left
  pub link : IsBehind post.job.sieve before.link left.link after.link
  pub clock : left.clock ≡ after.clock

-- ---- by its journal

-- the record of the node after the turns of a journal
abbrev pub record_after : Post → List Entry → Record EndpointLocal
record_after post journal =
    (replay_state state_steps (opening_state post.job post.rank) journal).ranked.state.node

-- it has noted a violation
abbrev pub has_noted : Record EndpointLocal → Bool
has_noted node = not ((log_of node.local.core.violations).count == 0)

-- the lines of the node's trace
abbrev pub node_lines : Post → List Entry → List Line
node_lines post journal = trace_lines post.job.settings.version (trace_of post.job.settings post.rank journal)

-- the same without the last one
abbrev pub node_open : Post → List Entry → List Line
node_open post journal = open_lines post.job.settings post.rank journal
