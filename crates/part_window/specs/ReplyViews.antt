-- How the value of the kept replies is read off the table of slots.
use Rattle.std.specs.Prelude.{ℕ, ◌≡◌, ◌≢◌, length, map, Some, slice_get}
use Rattle.base_lists.specs.Cut.{cut, total_of}
use Rattle.part_window.specs.TableState.{SlotState, Vacant, Opened, Committed, TableState, number_of}
use Rattle.part_window.specs.RepliesState.{ReplyState, Unused, Opened as Placed, Kept, RepliesState}

-- a slot as one that keeps a reply: its time is left out
abbrev pub reply_of : SlotState → ReplyState
reply_of Vacant = Unused
reply_of (Opened number time buffer) = Placed number buffer
reply_of (Committed number time message) = Kept number message

-- the value of the kept replies
abbrev pub replies_view : TableState → RepliesState
replies_view table = record { peers = cut table.counts (map reply_of table.slots) }

-- the number of a slot that is taken is not 0
pub record IsReplies (table : TableState) : Type 0 where
  pub whole : total_of table.counts ≡ length table.slots
  pub numbered : (place number : ℕ) (state : SlotState) → slice_get table.slots place ≡ Some state
      → number_of state ≡ Some number → number ≢ 0
