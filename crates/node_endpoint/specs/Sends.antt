-- That an event sends the message of the slot that its answer names.
use Rattle.std.specs.Prelude.{◌≡◌, List, [], ◌∷◌, Option, None, Some}
use Rattle.wire_message.specs.Message.{Message, Spells}
use Rattle.spec_node.specs.Step.{request_slot, reply_slot}
use Rattle.spec_node.specs.NodeStep.{Comes, Ticks}
use Rattle.spec_node.specs.Transition.{Transition}
use Rattle.spec_node.specs.declared.answer.SlotRef.{SlotRef}
use Rattle.part_handlers.specs.Runs.{Meaning}
use Rattle.node_rules.specs.Sent.{Packet, Asking, Replying, sends as sent_by}
use Rattle.node_rules.specs.Called.{event_of_call}
use Rattle.node_rules.specs.Sends.{sends}
use Rattle.node_rules.specs.EndpointRules.{RecordEvent, transition}
use Rattle.node_endpoint.specs.EndpointState.{EndpointState, ForItsRecord, job_here}
use Rattle.node_rules.specs.declared.call.Event.{Event}
use Rattle.node_rules.specs.declared.call.Event.TheVariants as event
use Rattle.node_rules.specs.declared.answer.Answer.{Answer}

-- the slot of its sender in which a message stands
abbrev pub sender_slot : Packet → SlotRef
sender_slot (Asking place content) = request_slot place.to place.slot
sender_slot (Replying place content) = reply_slot place.from place.slot

-- the messages are the one of that slot, or none
abbrev pub AreThatOf : Option SlotRef → List Packet → Type 0
AreThatOf None packets = packets ≡ []
AreThatOf (Some at) packets = (packet : Packet) × (packets ≡ packet ∷ []) × (sender_slot packet ≡ at)

-- an event that falls on the node sends the message of the slot that its answer names
abbrev pub NodeSends : Meaning → EndpointState → Transition RecordEvent Answer → Type 0
NodeSends meaning endpoint step = ForItsRecord endpoint (λ node.
    AreThatOf (sends step.answer)
    (sent_by (job_here meaning endpoint) endpoint.core.me node step.now step.event))

-- so does a step of the endpoint
abbrev pub StepSends : Meaning → EndpointState → Transition Event Answer → Type 0
StepSends meaning endpoint step = elim step.event [
  | event.Call thread call ↦ NodeSends meaning endpoint (transition step.now (event_of_call thread call) step.answer)
  | event.Deliver bytes ↦
      (message : Message) → message.version ≡ endpoint.core.settings.version → Spells message bytes.now
      → NodeSends meaning endpoint (transition step.now (Comes message) step.answer)
  | event.Tick ↦ NodeSends meaning endpoint (transition step.now Ticks step.answer)
]
