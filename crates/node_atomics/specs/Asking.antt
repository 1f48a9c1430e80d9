-- What it means that a thread asks a batch, and what a request asks.
use Rattle.std.specs.Prelude.{ℕ, ◌==◌, if◌then◌else◌, Option, None, Some}
use Rattle.wire_message.specs.Content.{Content}
use Rattle.wire_message.specs.Parameters.{Parameters}
use Rattle.spec_node.specs.Behaviour.{Asking, Lent}
use Rattle.node_endpoint.specs.ClientRules.{medium_asking}
use Rattle.node_endpoint.specs.HandlerRuns.{shown_payload}
use Rattle.node_endpoint.specs.Called.{Requests}
use Rattle.node_endpoint.specs.Answer.{Answer}
use Rattle.node_endpoint.specs.Sites.{ThreadCall}
use Rattle.node_endpoint.specs.declared.caller.Called.{Called}
use Rattle.node_endpoint.specs.declared.caller.Called.TheVariants as called
use Rattle.node_atomics.specs.BatchRequests.{BatchRequest, batch_arguments, batch_handler, request_said, spelled_ops}
use Rattle.node_atomics.specs.Batches.{BatchState}
use Rattle.node_atomics.specs.Served.{if_placed}

-- the Medium request of a batch, as a thread asks it
abbrev pub batch_asking : BatchRequest → Asking
batch_asking request =
    medium_asking batch_handler (batch_arguments request.local request.tag) (Lent (spelled_ops request.ops))

-- the call: that request, of the batch's target
abbrev pub batch_call : (thread : ℕ) → BatchState → ThreadCall
batch_call thread batch = record { thread = thread; call = Requests batch.to (batch_asking batch.request) }

-- how the call is answered; none where memory ran out
abbrev pub answer_of : Called → Option Answer
answer_of (called.Answer answer) = Some answer
answer_of called.NoMemory = None

-- what a request with this content asks, if it is one of a batch whose places are all good
abbrev pub batch_of : Parameters → Content → Option BatchRequest
batch_of settings content =
    if content.handler == batch_handler
    then if_placed settings.segment (request_said content.args (shown_payload content))
    else None
