-- What holds of the record of a node, whatever bytes are delivered to it.
use Rattle.std.specs.Prelude.{ℕ, ◌≡◌, ◌<◌, ◌≤◌, true, List, [], Some, length, slice_get}
use Rattle.wire_message.specs.Parameters.{Parameters}
use Rattle.wire_message.specs.declared.content.Address.{Address}
use Rattle.wire_message.specs.Content.{message_at_address}
use Rattle.wire_message.specs.Message.{Message, IsMessage}
use Rattle.base_lists.specs.Numbered.{element_at}
use Rattle.spec_node.specs.Record.{Request, Run, Node}
use Rattle.spec_node.specs.Requests.{outstanding}
use Rattle.spec_node.specs.Credits.{Limits, limits_of}

-- the address of a message of the job
abbrev pub address_in : Parameters → (from to slot number : ℕ) → Address
address_in settings from to slot number = record {
  version = settings.version;
  job = settings.job;
  from = from;
  to = to;
  slot = slot;
  number = number;
}

-- request `number` of the pair (from, to)
abbrev pub request_message : Parameters → (from to number : ℕ) → Request → Message
request_message settings from to number request =
    message_at_address (address_in settings from to request.slot number) request.content

-- the reply to the request of a run of the pair (from, to)
abbrev pub reply_message : Parameters → (from to : ℕ) → Run → Message
reply_message settings from to run = message_at_address (address_in settings to from run.slot run.number) run.reply

-- of the requests that a node asked of another
pub record IsOrderly (limits : Limits) (requests : List Request) : Type 0 where
  pub few : outstanding requests ≤ limits.credits
  pub short : length requests ≤ limits.last
  pub low : (number : ℕ) (request : Request)
      → element_at requests number ≡ Some request → request.slot < limits.credits
  -- of the requests of one slot all but the last one are back
  pub apart : (number later : ℕ) (request other : Request)
      → element_at requests number ≡ Some request → element_at requests later ≡ Some other → number < later
      → request.slot ≡ other.slot → request.back ≡ true

-- of the whole record of the node `me`, where it keeps what is good
pub record NodeInvariant
    {Local : Type 0} (settings : Parameters) (IsKept : (me : ℕ) → Local → Type 0) (me : ℕ) (node : Node Local)
    : Type 0 where
  pub orderly : (peer : ℕ) → IsOrderly (limits_of settings me peer) (node.asked peer)
  -- it asks nothing of itself
  pub own : node.asked me ≡ []
  -- what it asked and what it replied has a spelling
  pub asked : (peer number : ℕ) (request : Request)
      → element_at (node.asked peer) number ≡ Some request
      → IsMessage (request_message settings me peer number request)
  pub replied : (peer place : ℕ) (run : Run)
      → slice_get (node.ran peer) place ≡ Some run → IsMessage (reply_message settings peer me run)
  -- what it keeps beside that is good
  pub kept : IsKept me node.local
