-- The numbers of answers, and what else C is told of one.
use Rattle.std.specs.Prelude.{ℕ, Option, Some, None}
use Rattle.node_rules.specs.Sends.{sends}
use Rattle.node_rules.specs.declared.answer.Answer.{Answer}
use Rattle.node_rules.specs.declared.answer.Answer.TheVariants as answers
use Rattle.node_rules.specs.declared.answer.Begun.{Begun}
use Rattle.node_rules.specs.declared.answer.Begun.TheVariants as begun
use Rattle.node_rules.specs.declared.answer.Region.{Region}
use Rattle.node_rules.specs.declared.answer.Region.TheVariants as region
use Rattle.spec_node.specs.Step.{request_slot}
use Rattle.spec_node.specs.declared.answer.Asked.{Asked}
use Rattle.spec_node.specs.declared.answer.Asked.TheVariants as asked
use Rattle.spec_node.specs.declared.answer.Delivered.{Delivered}
use Rattle.spec_node.specs.declared.answer.Delivered.TheVariants as delivered
use Rattle.spec_node.specs.declared.answer.SlotRef.{SlotRef}
use Rattle.spec_node.specs.declared.answer.Ticked.{Ticked}
use Rattle.spec_node.specs.declared.answer.Ticked.TheVariants as ticked
use Rattle.part_transfers.specs.declared.operation.Synced.{Synced}
use Rattle.part_transfers.specs.declared.operation.Synced.TheVariants as synced
use Rattle.part_barrier.specs.declared.answer.Notified.{Notified}
use Rattle.part_barrier.specs.declared.answer.Notified.TheVariants as notified
use Rattle.part_barrier.specs.declared.answer.BarrierAnswer.{BarrierAnswer}
use Rattle.part_barrier.specs.declared.answer.BarrierAnswer.TheVariants as barrier
use Rattle.node_collectives.specs.declared.answers.StartAnswer.{StartAnswer}
use Rattle.node_collectives.specs.declared.answers.StartAnswer.TheVariants as starts
use Rattle.node_collectives.specs.declared.answers.StepAnswer.{StepAnswer}
use Rattle.node_collectives.specs.declared.answers.StepAnswer.TheVariants as steps
use Rattle.node_collectives.specs.declared.answers.EndAnswer.{EndAnswer}
use Rattle.node_collectives.specs.declared.answers.EndAnswer.TheVariants as ends

abbrev pub asked_code : Asked → ℕ
asked_code (asked.Accepted to slot number) = 1
asked_code asked.Ran = 2
asked_code asked.NotYet = 3
asked_code asked.Exhausted = 4
asked_code _ = 5

abbrev pub begun_code : Begun → ℕ
begun_code (begun.Handle handle) = 6
begun_code begun.Done = 7
begun_code begun.TooMany = 8
begun_code (begun.BadArg part) = 5

abbrev pub synced_code : Synced → ℕ
synced_code synced.Ok = 9
synced_code synced.NotReady = 10
synced_code (synced.Exhausted to) = 4
synced_code _ = 5

abbrev pub region_code : Region → ℕ
region_code (region.Handle handle) = 6
region_code region.Begun = 7
region_code region.Done = 7
region_code _ = 5

abbrev pub notified_code : Notified → ℕ
notified_code notified.Ok = 9
notified_code _ = 5

abbrev pub barrier_code : BarrierAnswer → ℕ
barrier_code barrier.Ok = 9
barrier_code barrier.NotReady = 10
barrier_code barrier.Mismatch = 11
barrier_code (barrier.Exhausted to) = 4
barrier_code _ = 5

abbrev pub delivered_code : Delivered → ℕ
delivered_code (delivered.Ran at) = 12
delivered_code (delivered.Notified at notification) = 13
delivered_code (delivered.Duplicate at) = 14
delivered_code delivered.Stale = 15
delivered_code (delivered.Returned to slot number) = 16
delivered_code delivered.Late = 17
delivered_code (delivered.Deferred lock) = 18
delivered_code (delivered.Refused why) = 19

abbrev pub ticked_code : Ticked → ℕ
ticked_code ticked.Nothing = 20
ticked_code (ticked.Retransmission at) = 21
ticked_code (ticked.Notification at) = 24
ticked_code (ticked.Chunk at) = 25

abbrev pub answer_code : Answer → ℕ
answer_code (answers.Asked x) = asked_code x
answer_code (answers.Begun x) = begun_code x
answer_code (answers.Started x) = begun_code x
answer_code (answers.Synced x) = synced_code x
answer_code (answers.Region x) = region_code x
answer_code (answers.Notified x) = notified_code x
answer_code (answers.Barrier x) = barrier_code x
answer_code (answers.Delivered x) = delivered_code x
answer_code (answers.Ticked x) = ticked_code x
answer_code (answers.Forbidden x) = 22
answer_code _ = 23

-- the handle of a transfer or of a region, or 0
abbrev pub value_of : Answer → ℕ
value_of (answers.Begun (begun.Handle handle)) = handle.serial
value_of (answers.Started (begun.Handle handle)) = handle.serial
value_of (answers.Region (region.Handle handle)) = handle.serial
value_of _ = 0

-- the slot of the datagram that is sent, or of the request that is back
abbrev pub slot_told : Answer → Option SlotRef
slot_told (answers.Delivered (delivered.Returned to slot number)) = Some (request_slot to slot)
slot_told answer = sends answer

-- its node and its number; zeros where there is none
abbrev pub told_at : Option SlotRef → ℕ × ℕ
told_at None = (0, 0)
told_at (Some at) = (at.peer, at.slot)

-- ---- collectives

abbrev pub start_code : StartAnswer → ℕ
start_code starts.Started = 9
start_code starts.Busy = 5
start_code (starts.BadArg part) = 5
start_code starts.Exhausted = 4
start_code (starts.Forbidden why) = 22
start_code (starts.LockBusy lock) = 18
start_code starts.NoMemory = 23

abbrev pub step_code : StepAnswer → ℕ
step_code (steps.Sent to) = 1
step_code steps.Nothing = 20
step_code (steps.Forbidden why) = 22
step_code steps.NoMemory = 23

abbrev pub end_code : EndAnswer → ℕ
end_code ends.Ended = 9
end_code (ends.Mismatch node) = 11
end_code ends.NotReady = 10
end_code ends.NotStarted = 5
end_code (ends.BadArg part) = 5
end_code (ends.Exhausted node) = 4
end_code (ends.Forbidden why) = 22
end_code ends.NoMemory = 23

-- the node that an answer names; else 0
abbrev pub end_node : EndAnswer → ℕ
end_node (ends.Mismatch node) = node
end_node (ends.Exhausted node) = node
end_node _ = 0
