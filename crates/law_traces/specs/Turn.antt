-- A turn of a thread of a node: one delivery and one tick, where the thread polls, and one try of its script's step.
-- Origin: this project's profile.
use Rattle.std.specs.Prelude.{ℕ, Bool, true, false, ◌||◌, if◌then◌else◌, List, [], ◌∷◌, ◌++◌, map, Option, None, Some}
use Rattle.std.specs.Prelude.{is_some, slice_get}
use Rattle.std.specs.Option.{option_map}
use Rattle.wire_message.specs.Parameters.{Parameters}
use Rattle.wire_message.specs.Content.{Content, message_at_address, spelling}
use Rattle.wire_message.specs.Message.{Message}
use Rattle.wire_message.specs.declared.content.Address.{Address}
use Rattle.wire_message.specs.declared.refused.Refused.{Refused}
use Rattle.wire_message.specs.Refusals.{first_refusal}
use Rattle.wire_message.specs.Reading.{message_at}
use Rattle.spec_node.specs.Record.{Node}
use Rattle.spec_node.specs.Invariant.{address_in}
use Rattle.spec_node.specs.NodeStep.{Job, NodeEvent, Comes, Ticks, NodeAnswer, node_answer, node_after}
use Rattle.spec_network.specs.Sent.{Packet, Asking, Replying, sends}
use Rattle.node_rules.specs.Called.{node_event}
use Rattle.node_rules.specs.EndpointRules.{OtherCall, RecordEvent, answer_told}
use Rattle.node_rules.specs.declared.answer.Answer.{Answer}
use Rattle.law_traces.specs.declared.script_answer.ScriptAnswer.{ScriptAnswer}
use Rattle.law_traces.specs.Scripts.{ThreadCall, TryResult, TryContext, NodeJob}

-- ---- several events of a node at one time

-- the node `me` after these events
abbrev pub node_run : {Local Call Told : Type 0}
    → Job Local Call Told → (me now : ℕ) → List (NodeEvent Call) → Node Local → Node Local
node_run job me now [] node = node
node_run job me now (event ∷ events) node = node_run job me now events (node_after job me node now event)

-- their answers
abbrev pub node_answers : {Local Call Told : Type 0}
    → Job Local Call Told → (me now : ℕ) → List (NodeEvent Call) → Node Local → List (NodeAnswer Told)
node_answers job me now [] node = []
node_answers job me now (event ∷ events) node =
    node_answer job me node now event ∷ node_answers job me now events (node_after job me node now event)

-- what they send
abbrev pub node_sends : {Local Call Told : Type 0}
    → Job Local Call Told → (me now : ℕ) → List (NodeEvent Call) → Node Local → List Packet
node_sends job me now [] node = []
node_sends job me now (event ∷ events) node =
    sends job me node now event ++ node_sends job me now events (node_after job me node now event)

-- ---- datagrams

-- what a message that travels says
abbrev pub says : Packet → Content
says (Asking place content) = content
says (Replying place content) = content

-- the node that it is for
abbrev pub receiver : Packet → ℕ
receiver (Asking place content) = place.to
receiver (Replying place content) = place.from

-- where it goes
abbrev pub address : Parameters → Packet → Address
address settings (Asking place content) = address_in settings place.from place.to place.slot place.number
address settings (Replying place content) = address_in settings place.to place.from place.slot place.number

-- the message itself
abbrev pub packet_message : Parameters → Packet → Message
packet_message settings packet = message_at_address (address settings packet) (says packet)

-- its datagram, with the node that it is for
abbrev pub datagram : Parameters → Packet → ℕ × List ℕ
datagram settings packet = (receiver packet, spelling (packet_message settings packet))

-- ---- the try of a thread's next step

-- of a thread of the node `me` at this time
abbrev pub context : {Kept Own : Type 0} → NodeJob Kept Own → (me thread now : ℕ) → TryContext
context job me thread now = record {
  settings = job.job.settings;
  table = job.table;
  meaning = job.meaning;
  me = me;
  thread = thread;
  now = now;
}

-- the events of calls of a thread
abbrev pub events_of : (thread : ℕ) → List ThreadCall → List RecordEvent
events_of thread calls = map (node_event thread) calls

-- the answer of the first of these calls
abbrev pub first_answer : {Kept : Type 0}
    → Job Kept OtherCall Answer → (me thread now : ℕ) → List ThreadCall → Node Kept → Option Answer
first_answer job me thread now calls node =
    option_map (λ call. answer_told (node_answer job me node now (node_event thread call))) (slice_get calls 0)

-- the events of the calls that it makes, where this is left of the scripts and it finds this record
abbrev pub try_events : {Kept Own : Type 0}
    → NodeJob Kept Own → (me thread now : ℕ) → Own → Node Kept → List RecordEvent
try_events job me thread now own node =
    events_of thread (job.scripts.calls (context job me thread now) own node)

-- the answer of the first of its calls
abbrev pub try_answer : {Kept Own : Type 0}
    → NodeJob Kept Own → (me thread now : ℕ) → Own → Node Kept → Option Answer
try_answer job me thread now own node =
    first_answer job.job me thread now (job.scripts.calls (context job me thread now) own node) node

-- ---- the machine of a node

pub record MachineState (Kept Own : Type 0) : Type 0 where
  pub node : Node Kept
  pub own : Own  -- what is left of its scripts
  pub outgoing : List (ℕ × List ℕ)  -- the datagrams of its last turn that wasn't empty, each with its receiver
  pub answer : Option ScriptAnswer  -- of the script step that ended in that turn

-- the delivery of bytes by whether they are refused: their message comes, unless they are none
abbrev pub coming : {Call : Type 0} → (version : ℕ) → Option Refused → List ℕ → List (NodeEvent Call)
coming version None bytes = Comes (message_at version bytes) ∷ []
coming version (Some refused) bytes = []

-- the delivery of what was got
abbrev pub comes : {Call : Type 0} → (version : ℕ) → (got : Option (List ℕ)) → List (NodeEvent Call)
comes version None = []
comes version (Some bytes) = coming version (first_refusal version bytes) bytes

-- the events before the try: where the thread polls, what was got is delivered, and the node ticks
abbrev pub before_try : {Call : Type 0}
    → (version : ℕ) → (polls : Bool) → (got : Option (List ℕ)) → List (NodeEvent Call)
before_try version polls got = if polls then comes version got ++ Ticks ∷ [] else []

-- a turn of a thread of a node
pub record Turn (Kept Own : Type 0) : Type 0 where
  pub events : List RecordEvent
  pub answers : List (NodeAnswer Answer)
  pub packets : List Packet  -- what it sends, in order
  pub changed : Bool  -- it isn't empty
  pub stepped : Bool  -- the step ended in it
  pub after : MachineState Kept Own

-- of the events before the try
abbrev pub first_events : {Kept Own : Type 0}
    → NodeJob Kept Own → MachineState Kept Own → (thread : ℕ) → (got : Option (List ℕ)) → List RecordEvent
first_events job state thread got =
    before_try job.job.settings.version (job.polls thread state.node.local) got

-- the record as the try begins
abbrev pub as_tried : {Kept Own : Type 0}
    → NodeJob Kept Own → (me : ℕ) → MachineState Kept Own → (thread now : ℕ) → (got : Option (List ℕ)) → Node Kept
as_tried job me state thread now got = node_run job.job me now (first_events job state thread got) state.node

-- the events of a turn: those before the try, and the calls that the try makes
abbrev pub turn_events : {Kept Own : Type 0}
    → NodeJob Kept Own → (me : ℕ) → MachineState Kept Own → (thread now : ℕ) → (got : Option (List ℕ))
    → List RecordEvent
turn_events job me state thread now got =
    first_events job state thread got
    ++ try_events job me thread now state.own (as_tried job me state thread now got)

-- the answer of the first of these calls
abbrev pub tried_answer : {Kept Own : Type 0}
    → NodeJob Kept Own → (me : ℕ) → MachineState Kept Own → (thread now : ℕ) → (got : Option (List ℕ)) → Option Answer
tried_answer job me state thread now got =
    try_answer job me thread now state.own (as_tried job me state thread now got)

-- how the try went
abbrev pub try_of : {Kept Own : Type 0}
    → NodeJob Kept Own → (me : ℕ) → MachineState Kept Own → (thread now : ℕ) → (got : Option (List ℕ)) → TryResult Own
try_of job me state thread now got =
    job.scripts.tried (context job me thread now) state.own (as_tried job me state thread now got)
    (node_run job.job me now (turn_events job me state thread now got) state.node)
    (tried_answer job me state thread now got)

-- a list has something
abbrev pub is_some_there : {X : Type 0} → List X → Bool
is_some_there [] = false
is_some_there (x ∷ xs) = true

-- what a turn of a thread of the node `me` does at this time, where it gets this. It is empty where nothing was got and
-- sent, and the try neither ended nor began its step; then what is outgoing stays
abbrev pub turn : {Kept Own : Type 0}
    → NodeJob Kept Own → (me : ℕ) → MachineState Kept Own → (thread now : ℕ) → (got : Option (List ℕ)) → Turn Kept Own
turn job me state thread now got =
    let events = turn_events job me state thread now got in
    let packets = node_sends job.job me now events state.node in
    let tried = try_of job me state thread now got in
    let changed = is_some got || is_some_there packets || is_some tried.ended || tried.began in
    record {
      events = events;
      answers = node_answers job.job me now events state.node;
      packets = packets;
      changed = changed;
      stepped = is_some tried.ended;
      after = record {
        node = node_run job.job me now events state.node;
        own = tried.left;
        outgoing = if changed then map (datagram job.job.settings) packets else state.outgoing;
        answer = if changed then tried.ended else state.answer;
      };
    }
