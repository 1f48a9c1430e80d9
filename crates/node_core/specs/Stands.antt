-- What a core keeps, of the record of its node.
use Rattle.std.specs.Prelude.{ℕ, ◌≡◌, ◌≢◌, ◌<◌, List, [], length, Option, None, Some, slice_get}
use Rattle.wire_message.specs.Parameters.{Parameters, AreInRange, credits_of}
use Rattle.wire_message.specs.Message.{spelling}
use Rattle.part_window.specs.SlotsState.{SlotState, Vacant, Committed, PeerState, slot_at}
use Rattle.part_window.specs.RepliesState.{ReplyState, Unused, Kept}
use Rattle.part_handlers.specs.LogState.{log_of}
use Rattle.spec_node.specs.Record.{Request, Run, Node}
use Rattle.spec_node.specs.Requests.{open_in}
use Rattle.spec_node.specs.Executed.{last_run}
use Rattle.node_core.specs.Kept.{Local, IsKept, segment_of}
use Rattle.spec_node.specs.Invariant.{NodeInvariant, request_message, reply_message}
use Rattle.node_core.specs.CoreState.{CoreState}

-- a slot of a peer, by the request of the slot that isn't back
abbrev pub slot_state : Parameters → (me peer : ℕ) → Option (ℕ × Request) → SlotState
slot_state settings me peer None = Vacant
slot_state settings me peer (Some open_) =
    Committed open_.0 open_.1.time (spelling (request_message settings me peer open_.0 open_.1))

-- a slot of a peer's requests, by the last run of the slot
abbrev pub reply_state : Parameters → (me peer : ℕ) → Option Run → ReplyState
reply_state settings me peer None = Unused
reply_state settings me peer (Some run) = Kept run.number (spelling (reply_message settings peer me run))

pub record StandsForAsked (settings : Parameters) (me peer : ℕ) (kept : PeerState) (requests : List Request)
    : Type 0 where
  pub given : kept.given ≡ length requests
  pub count : length kept.slots ≡ credits_of settings me peer
  pub slots : (slot : ℕ) → slot < credits_of settings me peer
      → slice_get kept.slots slot ≡ Some (slot_state settings me peer (open_in slot requests))

pub record StandsForRan (settings : Parameters) (me peer : ℕ) (kept : List ReplyState) (runs : List Run)
    : Type 0 where
  pub count : length kept ≡ credits_of settings peer me
  pub slots : (slot : ℕ) → slot < credits_of settings peer me
      → slice_get kept slot ≡ Some (reply_state settings me peer (last_run slot runs))

-- what the core keeps is what the record of its node gives
pub record CoreStands (core : CoreState) (node : Node Local) : Type 0 where
  pub range : AreInRange core.settings
  pub me_in : core.me < core.settings.nodes
  pub invariant_ : NodeInvariant core.settings (IsKept core.settings) core.me node
  pub last : core.requests.last ≡ core.settings.last
  pub requests : (peer : ℕ) → peer < core.settings.nodes → peer ≢ core.me
      → (kept : PeerState) × (slice_get core.requests.peers peer ≡ Some kept)
      × StandsForAsked core.settings core.me peer kept (node.asked peer)
  -- it has no slot for requests to what is no other node
  pub no_more : (peer slot : ℕ) → (peer < core.settings.nodes → peer ≡ core.me)
      → slot_at core.requests peer slot ≡ None
  pub replies : (peer : ℕ) → peer < core.settings.nodes → peer ≢ core.me
      → (kept : List ReplyState) × (slice_get core.replies.peers peer ≡ Some kept)
      × StandsForRan core.settings core.me peer kept (node.ran peer)
  -- it ran nothing of itself
  pub own_ran : node.ran core.me ≡ []
  pub segment_is : core.segment ≡ segment_of core.settings node.local
  pub locks_are : core.locks ≡ node.local.locks
  pub cells_are : core.cells ≡ node.local.cells
  pub log_is : core.log ≡ log_of node.local.violations
