-- What the output of a node tells by itself: the replay of its trace, less what the node refuses.
-- Origin: this project's profile.
use Rattle.std.specs.Prelude.{◌≡◌, ◌≤◌, ℕ, true, if◌then◌else◌, List, length, take, is_some}
use Rattle.wire_message.specs.Parameters.{Parameters}
use Rattle.node_rules.specs.EndpointLocal.{EndpointLocal}
use Rattle.node_endpoint.specs.EndpointState.{ForItsRecord}
use Rattle.text_trace.specs.declared.output.Output.{Output}
use Rattle.text_job.specs.declared.job.Job.{Job as JobState}
use Rattle.base_lists.specs.Sums.{sum_below}
use Rattle.base_turns.specs.Replay.{replay_state}
use Rattle.base_turns.specs.declared.entry.Entry.{Entry}
use Rattle.proc_machine.specs.Kept.{are_done}
use Rattle.spec_node.specs.Record.{Node}
use Rattle.spec_node.specs.SlotMessages.{number_in_slot}
use Rattle.spec_node.specs.declared.answer.Side.TheVariants as side
use Rattle.text_trace.specs.Sending.{sent_from}
use Rattle.text_trace.specs.declared.replaying.Replayed.{Replayed}
use Rattle.cli_check.specs.Recording.{RecordedState, RecorderKept, RecorderStands, opening_record, record_steps}
use Rattle.cli_check.specs.Rejected.{refused_turns, accepted_entries, accepted_trace}
use Rattle.cli_check.specs.declared.node_replay.NodeReplay.{NodeReplay}

-- ---- requests

-- one for a slot whose request to this peer isn't back, 0 for any other
abbrev pub one_if_open : Parameters → (me : ℕ) → Node EndpointLocal → (peer slot : ℕ) → ℕ
one_if_open settings me node peer slot =
    if is_some
    (number_in_slot settings me node (record { side = side.Request; peer = peer; slot = slot })) then 1 else 0

-- how many requests to this peer aren't back, of those in the slots below this one
unfoldable pub open_below : Parameters → (me : ℕ) → Node EndpointLocal → (peer slot : ℕ) → ℕ
open_below settings me node peer slot = sum_below (one_if_open settings me node peer) slot

-- how many requests to the peers below this one aren't back: a pair has at most 32 slots
unfoldable pub open_among : Parameters → (me : ℕ) → Node EndpointLocal → (peers : ℕ) → ℕ
open_among settings me node peers = sum_below (λ peer. open_below settings me node peer 32) peers

-- to all: a job has at most 256 nodes
abbrev pub open_requests : Parameters → (me : ℕ) → Node EndpointLocal → ℕ
open_requests settings me node = open_among settings me node 256

-- ---- a replay

-- the node of this rank after the first of these entries, less what it refuses
abbrev pub state_after : JobState → (rank turns : ℕ) → List Entry → RecordedState
state_after job rank turns entries =
    replay_state record_steps (opening_record job rank) (take turns (accepted_entries job rank entries))

-- this is what the output of the node of this rank tells: what its machine keeps after the turns that it took, which
-- may be fewer than all, with the lines of the steps that ended in them and what they sent
pub record ReplaysOutput (job : JobState) (rank : ℕ) (output : Output) (found : NodeReplay)
    (turns : Replayed) : Type 0 where
  pub status_is : found.status ≡ output.status
  pub trace_is : found.trace ≡ accepted_trace job rank output.trace
  pub refused_is : found.refused ≡ refused_turns job rank output.trace.entries
  pub within : turns.turns ≤ length found.trace.entries
  pub kept : RecorderKept
  pub stands : RecorderStands kept (state_after job rank turns.turns output.trace.entries)
  pub whole : kept.whole ≡ true
  pub node_is : found.node ≡ kept.node.endpoint
  pub steps_are : found.steps.taken ≡ kept.text
  pub over_is : found.over ≡ are_done kept.node.scripts
  pub open_is : ForItsRecord found.node (λ node.
      found.outstanding ≡ open_requests found.node.core.settings found.node.core.me node)
  pub sent_is : turns.sent.items
      ≡ sent_from record_steps (opening_record job rank) 1
      (take turns.turns (accepted_entries job rank output.trace.entries))
