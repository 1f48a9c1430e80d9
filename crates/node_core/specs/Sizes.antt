-- How many slots the tables of a core have.
use Rattle.std.specs.Prelude.{ℕ, ◌≡◌, ◌≢◌, ◌<◌, List, length, Some, slice_get}
use Rattle.wire_message.specs.Parameters.{Parameters, AreInRange, credits_of}
use Rattle.part_window.specs.SlotsState.{SlotsState, slot_count, IsNew}
use Rattle.part_window.specs.RepliesState.{RepliesState, IsNew as IsNewReplies}
use Rattle.part_window.specs.RepliesState.{slot_count as reply_count}
use Rattle.spec_node.specs.declared.answer.Side.{Side}
use Rattle.spec_node.specs.declared.answer.Side.TheVariants as side
use Rattle.spec_node.specs.SlotMessages.{slots_of}
use Rattle.node_core.specs.CoreState.{CoreState}

-- as many slots for each other node as its pair has credits, and none for the node itself
pub record IsSized (settings : Parameters) (me : ℕ) (requests : SlotsState) (replies : RepliesState) : Type 0 where
  pub range : AreInRange settings
  pub requesters : length requests.peers ≡ settings.nodes
  pub request_slots : (peer : ℕ) → peer < settings.nodes → peer ≢ me
      → slot_count requests peer ≡ credits_of settings me peer
  pub none_asked : slot_count requests me ≡ 0
  pub responders : length replies.peers ≡ settings.nodes
  pub kept_slots : (peer : ℕ) → peer < settings.nodes → peer ≢ me
      → reply_count replies peer ≡ credits_of settings peer me
  pub none_kept : reply_count replies me ≡ 0

-- the segment is as long as the settings say
abbrev pub HasSegment : CoreState → Type 0
HasSegment core = length core.segment ≡ core.settings.segment

-- these numbers, by node, are those of the slots of that side for each other node
pub record AreSlots (settings : Parameters) (me : ℕ) (which : Side) (counts : List ℕ) : Type 0 where
  pub nodes : length counts ≡ settings.nodes
  pub others : (peer : ℕ) → peer < settings.nodes → peer ≢ me
      → slice_get counts peer ≡ Some (slots_of settings me which peer)

-- a table of requests as a core begins with it: as many free slots for each other node as its pair has credits
pub record AreFreeRequests (settings : Parameters) (me : ℕ) (requests : SlotsState) : Type 0 where
  pub range : AreInRange settings
  pub counts : List ℕ
  pub slots : AreSlots settings me side.Request counts
  pub new : IsNew counts me settings.last requests

-- a table of replies as a core begins with it: it keeps none, and has a slot for each credit of the pairs to the node
pub record AreFreeReplies (settings : Parameters) (me : ℕ) (replies : RepliesState) : Type 0 where
  pub range : AreInRange settings
  pub counts : List ℕ
  pub slots : AreSlots settings me side.Reply counts
  pub new : IsNewReplies counts me replies
