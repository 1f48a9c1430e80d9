-- Nodes, and every message that they ever sent.
use Rattle.std.specs.Prelude.{ℕ, ◌<◌, List, [], ◌∷◌, Option, None, Some}
use Rattle.wire_message.specs.Parameters.{Parameters}
use Rattle.base_lists.specs.Numbered.{element_at}
use Rattle.base_lists.specs.Put.{put}
use Rattle.spec_node.specs.Record.{Request, Run, Node, opening_node}
use Rattle.spec_node.specs.Executed.{run_of}
use Rattle.spec_node.specs.Behaviour.{Ask}
use Rattle.spec_node.specs.NodeStep.{Job, NodeEvent, Asks as NodeAsks, Does as NodeDoes, Comes, Ticks as NodeTicks}
use Rattle.spec_node.specs.NodeStep.{NodeAnswer, node_answer, node_after}
use Rattle.spec_node.specs.Invariant.{request_message, reply_message}

-- the record of each node
abbrev pub World : Type 0 → Type 0
World Local = ℕ → Node Local

-- before all events
abbrev pub opening : {Local : Type 0} → (ℕ → Local) → World Local
opening start node = opening_node (start node)

-- what may happen next: also the delivery of what was never sent. A message that is lost is never delivered; one that
-- is repeated is delivered again; there is no order
pub data Event (Call : Type 0) : Type 0 where
  Asks : (node : ℕ) → Ask → Event Call  -- a thread of the node makes a request
  Does : (node thread : ℕ) → Call → Event Call  -- a thread of the node makes another call
  RequestComes : (from to number : ℕ) → Event Call  -- that request of the pair is delivered
  ReplyComes : (from to number : ℕ) → Event Call  -- the reply to that request of the pair is delivered
  Ticks : (node : ℕ) → Event Call

-- an event with its time
pub record EventAt (Call : Type 0) : Type 0 where
  pub now : ℕ
  pub event : Event Call

pub data WorldAnswer (Told : Type 0) : Type 0 where
  OfNode : NodeAnswer Told → WorldAnswer Told  -- that of the node on which the event fell
  Unsent : WorldAnswer Told  -- that message was never sent

-- an event where it falls
pub record Fall (Call : Type 0) : Type 0 where
  pub node : ℕ
  pub event : NodeEvent Call

abbrev pub request_event : {Call : Type 0} → Parameters → (from to number : ℕ) → Option Request → Option (Fall Call)
request_event settings from to number None = None
request_event settings from to number (Some request) =
    Some (record { node = to; event = Comes (request_message settings from to number request) })

abbrev pub reply_event : {Call : Type 0} → Parameters → (from to : ℕ) → Option Run → Option (Fall Call)
reply_event settings from to None = None
reply_event settings from to (Some run) =
    Some (record { node = from; event = Comes (reply_message settings from to run) })

-- the node on which an event falls, and what it is there. There is none for a message that was never sent; sent are the
-- requests accepted, and the replies of the requests run
abbrev pub falls : {Local Call : Type 0} → Parameters → World Local → Event Call → Option (Fall Call)
falls settings world (Asks node ask) = Some (record { node = node; event = NodeAsks ask })
falls settings world (Does node thread call) = Some (record { node = node; event = NodeDoes thread call })
falls settings world (RequestComes from to number) =
    request_event settings from to number (element_at ((world from).asked to) number)
falls settings world (ReplyComes from to number) =
    reply_event settings from to (run_of number ((world to).ran from))
falls settings world (Ticks node) = Some (record { node = node; event = NodeTicks })

abbrev pub answer_at : {Local Call Told : Type 0}
    → Job Local Call Told → World Local → (now : ℕ) → Option (Fall Call) → WorldAnswer Told
answer_at job world now None = Unsent
answer_at job world now (Some fall) = OfNode (node_answer job fall.node (world fall.node) now fall.event)

-- what an event is answered
abbrev pub world_answer : {Local Call Told : Type 0}
    → Job Local Call Told → World Local → EventAt Call → WorldAnswer Told
world_answer job world timed = answer_at job world timed.now (falls job.settings world timed.event)

abbrev pub after_at : {Local Call Told : Type 0}
    → Job Local Call Told → World Local → (now : ℕ) → Option (Fall Call) → World Local
after_at job world now None = world
after_at job world now (Some fall) =
    put world fall.node (node_after job fall.node (world fall.node) now fall.event)

-- the world after an event
abbrev pub world_after : {Local Call Told : Type 0}
    → Job Local Call Told → World Local → EventAt Call → World Local
world_after job world timed = after_at job world timed.now (falls job.settings world timed.event)

-- the world after a list of events
abbrev pub run : {Local Call Told : Type 0}
    → Job Local Call Told → List (EventAt Call) → World Local → World Local
run job [] world = world
run job (timed ∷ rest) world = run job rest (world_after job world timed)

-- the answers of a run, in order
abbrev pub answers_of : {Local Call Told : Type 0}
    → Job Local Call Told → List (EventAt Call) → World Local → List (WorldAnswer Told)
answers_of job [] world = []
answers_of job (timed ∷ rest) world =
    world_answer job world timed ∷ answers_of job rest (world_after job world timed)

-- the node on which a call or a tick falls, and both nodes of a delivery, are there
abbrev pub IsAmong : {Call : Type 0} → Parameters → Event Call → Type 0
IsAmong settings (Asks node ask) = node < settings.nodes
IsAmong settings (Does node thread call) = node < settings.nodes
IsAmong settings (RequestComes from to number) = (from < settings.nodes) × (to < settings.nodes)
IsAmong settings (ReplyComes from to number) = (from < settings.nodes) × (to < settings.nodes)
IsAmong settings (Ticks node) = node < settings.nodes
