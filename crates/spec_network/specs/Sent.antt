-- The messages that were ever sent in a run.
-- Origin: GASNet 1.8.1, core API, active messages. Repeats and resending are this project's profile.
use Rattle.std.specs.Prelude.{ℕ, ◌≡◌, List, [], ◌∷◌, ◌++◌, ◌↔◌, Option, None, Some}
use Rattle.std.specs.List.{Contains}
use Rattle.wire_message.specs.Content.{Content, content_of}
use Rattle.wire_message.specs.Message.{Message}
use Rattle.base_lists.specs.Numbered.{element_at}
use Rattle.spec_node.specs.declared.answer.Asked.{Asked}
use Rattle.spec_node.specs.declared.answer.Asked.TheVariants as asked
use Rattle.spec_node.specs.Record.{Request, Run, Node}
use Rattle.spec_node.specs.Requests.{next_claim}
use Rattle.spec_node.specs.Executed.{run_of, run_at}
use Rattle.spec_node.specs.Behaviour.{Ask}
use Rattle.spec_node.specs.Step.{Site, request_content, with_sender, request_answer, Verdict, Duplicated, Runs, verdict}
use Rattle.spec_node.specs.Step.{TickChoice, Retransmits, Sends, Rests, tick_choice}
use Rattle.spec_node.specs.NodeStep.{Job, site_of, NodeEvent, Asks, Does, Comes, Ticks}
use Rattle.spec_network.specs.World.{World, opening, EventAt, Fall, falls, world_after, run}

-- the pair and the number of a request, with its slot
pub record Place : Type 0 where
  pub from : ℕ
  pub to : ℕ
  pub number : ℕ
  pub slot : ℕ

-- a message as it travels: a request of a pair, or its reply
pub data Packet : Type 0 where
  Asking : Place → Content → Packet
  Replying : Place → Content → Packet

-- the node that sends it
abbrev pub sender : Packet → ℕ
sender (Asking place content) = place.from
sender (Replying place content) = place.to

-- the record of that node has it
abbrev pub Has : {Local : Type 0} → Packet → Node Local → Type 0
Has (Asking place content) node =
    (request : Request) × (element_at (node.asked place.to) place.number ≡ Some request)
    × (request.slot ≡ place.slot) × (request.content ≡ content)
Has (Replying place content) node =
    (run : Run) × (run_of place.number (node.ran place.from) ≡ Some run)
    × (run.slot ≡ place.slot) × (run.reply ≡ content)

-- it is the message of a request that was accepted, or the reply of a run
abbrev pub IsRecorded : {Local : Type 0} → World Local → Packet → Type 0
IsRecorded world packet = Has packet (world (sender packet))

-- a request of the record
abbrev pub asking : (from to number : ℕ) → Option Request → List Packet
asking from to number None = []
asking from to number (Some request) =
    Asking (record { from = from; to = to; number = number; slot = request.slot }) request.content ∷ []

-- the reply of a run of the record
abbrev pub replying : (from to number : ℕ) → Option Run → List Packet
replying from to number None = []
replying from to number (Some run) =
    Replying (record { from = from; to = to; number = number; slot = run.slot }) run.reply ∷ []

-- a thread's request sends its message where it is accepted
abbrev pub asked_sends : {Local : Type 0} → Site Local → Node Local → Ask → Asked → List Packet
asked_sends site node ask (asked.Accepted to slot number) =
    Asking (record { from = site.me; to = ask.to; number = number; slot = slot }) (request_content site node ask) ∷ []
asked_sends site node ask _ = []

-- a message that is delivered sends a reply where it is a request that runs, or that came again
abbrev pub delivered_sends : {Local : Type 0} → Site Local → Node Local → Message → Verdict → List Packet
delivered_sends site node message Runs =
    Replying (record { from = message.from; to = site.me; number = message.number; slot = message.slot })
    (site.behaviour.run (with_sender site.me message) (content_of message) node.local).1
    ∷ []
delivered_sends site node message Duplicated =
    replying message.from site.me message.number (run_at message.slot message.number (node.ran message.from))
delivered_sends site node message _ = []

-- a tick sends the request that is due, or the node's next one
abbrev pub ticked_sends : {Local : Type 0} → (me : ℕ) → Node Local → TickChoice → List Packet
ticked_sends me node (Retransmits due) = asking me due.peer due.number (element_at (node.asked due.peer) due.number)
ticked_sends me node (Sends sending) =
    let claim = next_claim (node.asked sending.to) in
    Asking (record { from = me; to = sending.to; number = claim.number; slot = claim.slot }) sending.content ∷ []
ticked_sends me node Rests = []

-- what the node `me` sends by an event at this time
abbrev pub sends : {Local Call Told : Type 0}
    → Job Local Call Told → (me : ℕ) → Node Local → (now : ℕ) → NodeEvent Call → List Packet
sends job me node now (Asks ask) = asked_sends (site_of job me) node ask (request_answer (site_of job me) node ask)
sends job me node now (Does thread call) = []
sends job me node now (Comes message) =
    delivered_sends (site_of job me) node message (verdict (site_of job me) node message)
sends job me node now Ticks = ticked_sends me node (tick_choice (site_of job me) node now)

-- what is sent where this falls
abbrev pub sends_at : {Local Call Told : Type 0}
    → Job Local Call Told → World Local → (now : ℕ) → Option (Fall Call) → List Packet
sends_at job world now None = []
sends_at job world now (Some fall) = sends job fall.node (world fall.node) now fall.event

-- all that was sent in a run
abbrev pub datagrams_sent : {Local Call Told : Type 0}
    → Job Local Call Told → List (EventAt Call) → World Local → List Packet
datagrams_sent job [] world = []
datagrams_sent job (timed ∷ rest) world =
    sends_at job world timed.now (falls job.settings world timed.event)
    ++ datagrams_sent job rest (world_after job world timed)

-- the messages that were sent in the run from the opening are those that the records have
abbrev pub SentAreRecorded : {Local Call Told : Type 0}
    → Job Local Call Told → (ℕ → Local) → List (EventAt Call) → Type 0
SentAreRecorded job start events =
    (packet : Packet)
    → Contains (datagrams_sent job events (opening start)) packet ↔ IsRecorded (run job events (opening start)) packet
