-- The message of each slot of a node.
use Rattle.std.specs.Prelude.{Bool, ℕ, ◌==◌, ◌&&◌, not, nat_lt, if◌then◌else◌, List, Option, None}
use Rattle.std.specs.Option.{option_map}
use Rattle.wire_message.specs.Parameters.{Parameters, credits_of}
use Rattle.wire_message.specs.Message.{spelling}
use Rattle.spec_node.specs.declared.answer.Side.{Side}
use Rattle.spec_node.specs.declared.answer.Side.TheVariants as side
use Rattle.spec_node.specs.declared.answer.SlotRef.{SlotRef}
use Rattle.spec_node.specs.Record.{Node}
use Rattle.spec_node.specs.Requests.{open_in}
use Rattle.spec_node.specs.Executed.{last_run}
use Rattle.spec_node.specs.Invariant.{request_message, reply_message}

-- how many slots of that side the node `me` has for the peer
abbrev pub slots_of : Parameters → (me : ℕ) → Side → (peer : ℕ) → ℕ
slots_of settings me side.Request peer = credits_of settings me peer
slots_of settings me side.Reply peer = credits_of settings peer me

-- the message of a slot that has one
abbrev pub committed_message : {Local : Type 0} → Parameters → (me : ℕ) → Node Local → SlotRef → Option (List ℕ)
committed_message settings me node at = of_side at.side
  where
    of_side : Side → Option (List ℕ)
    of_side side.Request =
        option_map (λ open_. spelling (request_message settings me at.peer open_.0 open_.1))
        (open_in at.slot (node.asked at.peer))
    of_side side.Reply =
        option_map (λ run. spelling (reply_message settings at.peer me run)) (last_run at.slot (node.ran at.peer))

-- the number of the message of a slot that has one
abbrev pub committed_number : {Local : Type 0} → Node Local → SlotRef → Option ℕ
committed_number node at = of_side at.side
  where
    of_side : Side → Option ℕ
    of_side side.Request = option_map (λ open_. open_.0) (open_in at.slot (node.asked at.peer))
    of_side side.Reply = option_map (λ run. run.number) (last_run at.slot (node.ran at.peer))

-- the slot is one of the node `me`: its peer is another node, and it is among those of their pair
abbrev pub has_slot : Parameters → (me : ℕ) → SlotRef → Bool
has_slot settings me at =
    nat_lt at.peer settings.nodes && (not (at.peer == me) && nat_lt at.slot (slots_of settings me at.side at.peer))

-- the message at a slot of the node `me`
abbrev pub message_at : {Local : Type 0} → Parameters → (me : ℕ) → Node Local → SlotRef → Option (List ℕ)
message_at settings me node at = if has_slot settings me at then committed_message settings me node at else None

-- the number of that message
abbrev pub number_in_slot : {Local : Type 0} → Parameters → (me : ℕ) → Node Local → SlotRef → Option ℕ
number_in_slot settings me node at = if has_slot settings me at then committed_number node at else None
