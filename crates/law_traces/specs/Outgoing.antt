-- Where the datagrams of a turn stand: each in the slot of its message.
-- Origin: slots are this project's profile.
use Rattle.std.specs.Prelude.{ℕ, ◌≡◌, List, [], ◌∷◌, Some}
use Rattle.std.specs.List.{Contains}
use Rattle.wire_message.specs.Content.{spelling}
use Rattle.wire_message.specs.Message.{IsMessage}
use Rattle.spec_node.specs.declared.answer.SlotRef.{SlotRef}
use Rattle.spec_node.specs.Record.{Node}
use Rattle.spec_node.specs.Step.{request_slot, reply_slot}
use Rattle.spec_node.specs.Invariant.{NodeInvariant}
use Rattle.spec_node.specs.SlotMessages.{message_at}
use Rattle.spec_node.specs.NodeStep.{Job, NodeEvent, Asks, Does, Comes, Ticks, node_after}
use Rattle.spec_network.specs.Sent.{Packet, Asking, Replying}
use Rattle.law_traces.specs.Turn.{packet_message, node_run, node_sends}

-- the slot of the node that sends it
abbrev pub slot_of_packet : Packet → SlotRef
slot_of_packet (Asking place content) = request_slot place.to place.slot
slot_of_packet (Replying place content) = reply_slot place.from place.slot

-- the invariant holds of the node's record before and after each of these events
abbrev pub StaysWell : {Local Call Told : Type 0}
    → Job Local Call Told → (IsKept : (me : ℕ) → Local → Type 0) → (me now : ℕ) → List (NodeEvent Call) → Node Local
    → Type 0
StaysWell job IsKept me now [] node = NodeInvariant job.settings IsKept me node
StaysWell job IsKept me now (event ∷ events) node =
    NodeInvariant job.settings IsKept me node
    × StaysWell job IsKept me now events (node_after job me node now event)

-- none of them is a delivery
abbrev pub AreOwn : {Call : Type 0} → List (NodeEvent Call) → Type 0
AreOwn [] = Unit {0}
AreOwn (Asks ask ∷ events) = AreOwn events
AreOwn (Does thread call ∷ events) = AreOwn events
AreOwn (Comes message ∷ events) = ⊥
AreOwn (Ticks ∷ events) = AreOwn events

-- it is no delivery, or that of a message
abbrev pub DeliversOnlyMessages : {Call : Type 0} → NodeEvent Call → Type 0
DeliversOnlyMessages (Asks ask) = Unit {0}
DeliversOnlyMessages (Does thread call) = Unit {0}
DeliversOnlyMessages (Comes message) = IsMessage message
DeliversOnlyMessages Ticks = Unit {0}

-- at most the first is a delivery, and then that of a message
abbrev pub ComesFirst : {Call : Type 0} → List (NodeEvent Call) → Type 0
ComesFirst [] = Unit {0}
ComesFirst (event ∷ events) = DeliversOnlyMessages event × AreOwn events

-- after these events each message that they sent stands in its slot
abbrev pub SentStands : {Local Call Told : Type 0}
    → Job Local Call Told → (me now : ℕ) → List (NodeEvent Call) → Node Local → Type 0
SentStands job me now events node =
    (packet : Packet) → Contains (node_sends job me now events node) packet
    → message_at job.settings me (node_run job me now events node) (slot_of_packet packet)
    ≡ Some (spelling (packet_message job.settings packet))
