-- Which slot's message an answer tells to be sent.
use Rattle.std.specs.Prelude.{Option, None, Some}
use Rattle.spec_node.specs.Step.{request_slot}
use Rattle.spec_node.specs.declared.answer.SlotRef.{SlotRef}
use Rattle.spec_node.specs.declared.answer.Asked.TheVariants as asked
use Rattle.spec_node.specs.declared.answer.Delivered.TheVariants as delivered
use Rattle.spec_node.specs.declared.answer.Ticked.TheVariants as ticked
use Rattle.node_rules.specs.declared.answer.Answer.{Answer}
use Rattle.node_rules.specs.declared.answer.Answer.TheVariants as answer

-- the slot of the node whose message is sent
abbrev pub sends : Answer → Option SlotRef
sends (answer.Asked (asked.Accepted to slot number)) = Some (request_slot to slot)
sends (answer.Delivered (delivered.Ran at)) = Some at
sends (answer.Delivered (delivered.Notified at notification)) = Some at
sends (answer.Delivered (delivered.Duplicate at)) = Some at
sends (answer.Ticked (ticked.Retransmission at)) = Some at
sends (answer.Ticked (ticked.Notification at)) = Some at
sends (answer.Ticked (ticked.Chunk at)) = Some at
sends _ = None
