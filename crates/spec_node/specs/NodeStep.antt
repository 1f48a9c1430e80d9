-- What one event does to the record of a node: its answer, and what that leaves.
-- Origin: GASNet 1.8.1, core API.
use Rattle.std.specs.Prelude.{ℕ, Bool}
use Rattle.wire_message.specs.Parameters.{Parameters}
use Rattle.wire_message.specs.Message.{Message}
use Rattle.spec_node.specs.declared.answer.Asked.{Asked}
use Rattle.spec_node.specs.declared.answer.Delivered.{Delivered}
use Rattle.spec_node.specs.declared.answer.Ticked.{Ticked}
use Rattle.spec_node.specs.Record.{Node}
use Rattle.spec_node.specs.Behaviour.{Behaviour, Ask, IsSound}
use Rattle.spec_node.specs.Step.{Site, with_local, request_answer, after_request, verdict, answer_by, after_delivery}
use Rattle.spec_node.specs.Step.{is_exhausted, tick_choice, tick_answer, after_tick}

-- Call is what a thread may call beside a request, and Told is how that is answered

-- what a node does beside its slots and numbers: with messages, and by every other call, with its answer. A call sees
-- the node's number and for which nodes no number is left
pub record NodeBehaviour (Local Call Told : Type 0) : Type 0 where
  pub messages : Behaviour Local
  pub does : (me : ℕ) → (exhausted : ℕ → Bool) → (thread : ℕ) → Call → Local → Told × Local

-- the behaviour is sound, and what the other calls leave is good
pub record IsAllSound
    {Local Call Told : Type 0} (behaviour : NodeBehaviour Local Call Told) (IsKept : (me : ℕ) → Local → Type 0)
    : Type 0 where
  pub messages : IsSound behaviour.messages IsKept
  pub does : (me : ℕ) (exhausted : ℕ → Bool) (thread : ℕ) (call : Call) (local : Local)
      → IsKept me local → IsKept me (behaviour.does me exhausted thread call local).1

-- the settings of a job, and what its nodes do
pub record Job (Local Call Told : Type 0) : Type 0 where
  pub settings : Parameters
  pub behaviour : NodeBehaviour Local Call Told

-- a node of the job
abbrev pub site_of : {Local Call Told : Type 0} → Job Local Call Told → (me : ℕ) → Site Local
site_of job me = record { settings = job.settings; behaviour = job.behaviour.messages; me = me }

pub data NodeEvent (Call : Type 0) : Type 0 where
  Asks : Ask → NodeEvent Call  -- a thread makes a request
  Does : (thread : ℕ) → Call → NodeEvent Call  -- a thread makes another call
  Comes : Message → NodeEvent Call  -- a message is delivered
  Ticks : NodeEvent Call

pub data NodeAnswer (Told : Type 0) : Type 0 where
  OfRequest : Asked → NodeAnswer Told
  OfCall : Told → NodeAnswer Told
  OfDelivery : Delivered → NodeAnswer Told
  OfTick : Ticked → NodeAnswer Told

-- what another call of the node does
abbrev pub call_outcome : {Local Call Told : Type 0}
    → Job Local Call Told → (me : ℕ) → Node Local → (thread : ℕ) → Call → Told × Local
call_outcome job me node thread call =
    job.behaviour.does me (is_exhausted job.settings node) thread call node.local

-- what the node `me` answers to an event at this time
abbrev pub node_answer : {Local Call Told : Type 0}
    → Job Local Call Told → (me : ℕ) → Node Local → (now : ℕ) → NodeEvent Call → NodeAnswer Told
node_answer job me node now (Asks ask) = OfRequest (request_answer (site_of job me) node ask)
node_answer job me node now (Does thread call) = OfCall (call_outcome job me node thread call).0
node_answer job me node now (Comes message) =
    OfDelivery (answer_by job.behaviour.messages message (verdict (site_of job me) node message))
node_answer job me node now Ticks =
    OfTick (tick_answer job.behaviour.messages node (tick_choice (site_of job me) node now))

-- the node `me` after an event at this time
abbrev pub node_after : {Local Call Told : Type 0}
    → Job Local Call Told → (me : ℕ) → Node Local → (now : ℕ) → NodeEvent Call → Node Local
node_after job me node now (Asks ask) =
    after_request (site_of job me) node now ask (request_answer (site_of job me) node ask)
node_after job me node now (Does thread call) = with_local node (call_outcome job me node thread call).1
node_after job me node now (Comes message) =
    after_delivery (site_of job me) node message (verdict (site_of job me) node message)
node_after job me node now Ticks = after_tick (site_of job me) node now (tick_choice (site_of job me) node now)
