-- What is told of the replays of the outputs of nodes.
use Rattle.std.specs.Prelude.{◌≡◌, ℕ, ◌+◌, ◌-◌, ◌^◌, min, ◌==◌, not, List, [], length, Option, Some, None, MatchOption}
use Rattle.std.specs.Prelude.{slice_get}
use Rattle.cli_check.specs.Turned.{turned_at}
use Rattle.cli_check.specs.declared.node_replay.NodeReplay.{NodeReplay}
use Rattle.cli_check.specs.declared.outputs.NodeReplays.{NodeReplays}
use Rattle.node_endpoint.specs.EndpointState.{ForItsRecord}
use Rattle.text_trace.specs.OutputText.{status_code}
use Rattle.part_handlers.specs.LogState.{log_of}
use Rattle.base_turns.specs.declared.entry.Entry.{Entry}
use Rattle.cli_report.specs.Messages.{AreNoMessage, IsMessageOf}
use Rattle.cli_report.specs.declared.findings.NodeFinding.{NodeFinding}
use Rattle.cli_report.specs.declared.unsent.Gap.{Gap}
use Rattle.cli_report.specs.declared.unsent.Message.{Message}
use Rattle.cli_report.specs.declared.unsent.SentMessage.{SentMessage}
use Rattle.text_trace.specs.Sending.{AreAllSent, IsFirstUnsent}
use Rattle.text_trace.specs.declared.replaying.Replayed.{Replayed}
use Rattle.text_trace.specs.declared.sent.Sent.{Sent}

-- ---- what the replay of one output tells

pub record IsFindingOf (node : NodeReplay) (turns : ℕ) (finding : NodeFinding) : Type 0 where
  pub rank : finding.rank ≡ node.trace.rank
  pub status : finding.status ≡ status_code node.status
  pub over : finding.over ≡ node.over
  pub violated : ForItsRecord node.node (λ state.
      finding.violated ≡ not ((log_of state.local.core.violations).count == 0))
  pub refused : finding.refused ≡ node.refused
  pub outstanding : finding.outstanding ≡ node.outstanding
  pub entries : finding.entries ≡ length node.trace.entries
  pub turns_are : finding.turns ≡ turns

-- the message that bytes spell, or that they spell none
abbrev pub IsMessage : List ℕ → Option Message → Type 0
IsMessage bytes message = MatchOption message (AreNoMessage bytes) (IsMessageOf bytes)

abbrev pub IsGot : Option (List ℕ) → Option Message → Type 0
IsGot None message = message ≡ None
IsGot (Some bytes) message = IsMessage bytes message

pub record IsSentOf (rank : ℕ) (one : Sent) (told : SentMessage) : Type 0 where
  pub from : told.from ≡ rank
  pub entry : told.entry ≡ one.entry
  pub to : told.to ≡ one.to
  pub message : IsMessage one.bytes told.message

pub record IsGapOf (rank place : ℕ) (item : Entry) (gap : Gap) : Type 0 where
  pub rank_is : gap.rank ≡ rank
  pub entry : gap.entry ≡ min (place + 1) (2 ^ 64 - 1)
  pub message : IsGot item.got gap.message

-- ---- at a place

abbrev pub replay_at : NodeReplays → (place : ℕ) → Option NodeReplay
replay_at replays place = slice_get replays.nodes.items place

abbrev pub rank_of : Option NodeReplay → ℕ
rank_of None = 0
rank_of (Some node) = node.trace.rank

abbrev pub rank_at : NodeReplays → (place : ℕ) → ℕ
rank_at replays place = rank_of (replay_at replays place)

abbrev pub lines_of : Option NodeReplay → List ℕ
lines_of None = []
lines_of (Some node) = node.steps.taken

abbrev pub lines_at : NodeReplays → (place : ℕ) → List ℕ
lines_at replays place = lines_of (replay_at replays place)

abbrev pub turns_of : Option Replayed → ℕ
turns_of None = 0
turns_of (Some turned) = turned.turns

abbrev pub sent_by : Option Replayed → List Sent
sent_by None = []
sent_by (Some turned) = turned.sent.items

abbrev pub sends_at : NodeReplays → (place : ℕ) → ℕ
sends_at replays place = length (sent_by (turned_at replays place))

-- what an output tells; nothing where there is none
abbrev pub IsFindingBy : Option NodeReplay → (turns : ℕ) → Option NodeFinding → Type 0
IsFindingBy None turns finding = finding ≡ None
IsFindingBy (Some node) turns finding = MatchOption finding ⊥ (IsFindingOf node turns)

abbrev pub IsFinding : NodeReplays → (place : ℕ) → Option NodeFinding → Type 0
IsFinding replays place finding = IsFindingBy (replay_at replays place) (turns_of (turned_at replays place)) finding

abbrev pub IsSentBy : (rank : ℕ) → Option Sent → Option SentMessage → Type 0
IsSentBy rank None told = told ≡ None
IsSentBy rank (Some one) told = MatchOption told ⊥ (IsSentOf rank one)

abbrev pub IsSentMessage : NodeReplays → (place number : ℕ) → Option SentMessage → Type 0
IsSentMessage replays place number told =
    IsSentBy (rank_at replays place) (slice_get (sent_by (turned_at replays place)) number) told

-- the first entry that got what no node sent to its node; none where there is no such entry
pub record IsFirstGap (replays : NodeReplays) (node : NodeReplay) (gap : Gap) : Type 0 where
  pub place : ℕ
  pub item : Entry
  pub is_first : IsFirstUnsent replays.sent.items node.trace.rank node.trace.entries place
  pub is_item : slice_get node.trace.entries place ≡ Some item
  pub is : IsGapOf node.trace.rank place item gap

abbrev pub IsGapBy : NodeReplays → Option NodeReplay → Option Gap → Type 0
IsGapBy replays None gap = gap ≡ None
IsGapBy replays (Some node) gap =
    MatchOption gap (AreAllSent replays.sent.items node.trace.rank node.trace.entries) (IsFirstGap replays node)

abbrev pub IsGap : NodeReplays → (place : ℕ) → Option Gap → Type 0
IsGap replays place gap = IsGapBy replays (replay_at replays place) gap
