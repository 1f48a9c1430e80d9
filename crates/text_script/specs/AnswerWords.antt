-- The words of an answer.
use Rattle.std.specs.Prelude.{ℕ, List, [], ◌∷◌, Bool, true, false, Option, None, Some, codes, decimal, unwrap_or}
use Rattle.std.specs.Fmt.{signed_decimal}
use Rattle.std.specs.List.{flat_map}
use Rattle.part_segment.specs.Bytes.{part}
use Rattle.part_handlers.specs.declared.lock_answer.LockFault.{LockFault}
use Rattle.part_handlers.specs.declared.lock_answer.LockFault.TheVariants as lock_fault
use Rattle.part_handlers.specs.declared.lock_answer.LockAnswer.{LockAnswer}
use Rattle.part_handlers.specs.declared.lock_answer.LockAnswer.TheVariants as locking
use Rattle.part_handlers.specs.declared.lock_answer.UnlockAnswer.{UnlockAnswer}
use Rattle.part_handlers.specs.declared.lock_answer.UnlockAnswer.TheVariants as unlocking
use Rattle.base_text.specs.HexBytes.{hex_byte}
use Rattle.part_handlers.specs.declared.message.Which.{Which}
use Rattle.part_handlers.specs.declared.message.Which.TheVariants as which
use Rattle.part_handlers.specs.declared.rules.Forbidden.{Forbidden}
use Rattle.part_handlers.specs.declared.rules.Forbidden.TheVariants as forbidden
use Rattle.wire_message.specs.Parameters.{Parameters}
use Rattle.spec_node.specs.Record.{Node}
use Rattle.spec_node.specs.SlotMessages.{number_in_slot}
use Rattle.node_core.specs.Kept.{segment_of}
use Rattle.node_rules.specs.EndpointLocal.{EndpointLocal}
use Rattle.spec_node.specs.declared.answer.Asked.{Asked}
use Rattle.spec_node.specs.declared.answer.Asked.TheVariants as asked
use Rattle.spec_node.specs.declared.answer.Delivered.{Delivered}
use Rattle.spec_node.specs.declared.answer.Delivered.TheVariants as delivered
use Rattle.spec_node.specs.declared.answer.Why.{Why}
use Rattle.spec_node.specs.declared.answer.Why.TheVariants as why
use Rattle.spec_node.specs.declared.answer.SlotRef.{SlotRef}
use Rattle.spec_node.specs.declared.answer.Ticked.{Ticked}
use Rattle.spec_node.specs.declared.answer.Ticked.TheVariants as ticked
use Rattle.node_rules.specs.declared.answer.Answer.{Answer}
use Rattle.node_rules.specs.declared.answer.Answer.TheVariants as answers
use Rattle.node_rules.specs.declared.answer.Begun.{Begun}
use Rattle.node_rules.specs.declared.answer.Begun.TheVariants as begun
use Rattle.node_rules.specs.declared.answer.Region.{Region}
use Rattle.node_rules.specs.declared.answer.Region.TheVariants as region
use Rattle.node_rules.specs.declared.answer.Local.{Local as LocalAnswer}
use Rattle.node_rules.specs.declared.answer.Local.TheVariants as local
use Rattle.part_transfers.specs.declared.operation.Synced.{Synced}
use Rattle.part_transfers.specs.declared.operation.Synced.TheVariants as synced
use Rattle.part_barrier.specs.declared.answer.Notified.{Notified}
use Rattle.part_barrier.specs.declared.answer.Notified.TheVariants as notified
use Rattle.part_barrier.specs.declared.answer.BarrierAnswer.{BarrierAnswer}
use Rattle.part_barrier.specs.declared.answer.BarrierAnswer.TheVariants as barrier
use Rattle.text_job.specs.Vis.{Vis}
use Rattle.text_job.specs.Vis.TheVariants as vis
use Rattle.base_text.specs.Lines.{Word}
use Rattle.base_text.specs.LineTexts.{Line}

-- the word of the part of a call that is bad
abbrev pub bad_word : Which → Word
bad_word which.Node = codes "node"
bad_word which.Handler = codes "handler"
bad_word which.Count = codes "count"
bad_word which.Payload = codes "payload"
bad_word which.Source = codes "source"
bad_word which.Offset = codes "offset"

-- the word of the rule that forbids a call
abbrev pub rule_word : Forbidden → Word
rule_word forbidden.InHandler = codes "in-handler"
rule_word forbidden.NoToken = codes "no-token"
rule_word forbidden.SecondReply = codes "second-reply"
rule_word forbidden.ReplyInReply = codes "reply-in-reply"
rule_word forbidden.ReplyUnderLock = codes "reply-under-lock"
rule_word forbidden.UnderLock = codes "under-lock"
rule_word forbidden.LockHeldAtReturn = codes "lock-held-at-return"

-- the word of what is wrong with a call on a lock
abbrev pub lock_fault_word : LockFault → Word
lock_fault_word lock_fault.BadIndex = codes "bad-index"
lock_fault_word lock_fault.NotListed = codes "not-listed"
lock_fault_word lock_fault.Recursive = codes "recursive"
lock_fault_word lock_fault.NotHeld = codes "not-held"
lock_fault_word lock_fault.OutOfOrder = codes "out-of-order"

-- the word of why bytes are refused
abbrev pub refusal_word : Why → Word
refusal_word (why.Bytes refused) = codes "bytes"
refusal_word why.Job = codes "job"
refusal_word why.Receiver = codes "receiver"
refusal_word why.Sender = codes "sender"
refusal_word why.Slot = codes "slot"
refusal_word why.Handler = codes "handler"
refusal_word why.Args = codes "args"
refusal_word why.Range = codes "range"

-- the words of a call that the rule table forbids
abbrev pub forbidden_words : Forbidden → Line
forbidden_words rule = codes "forbidden" ∷ rule_word rule ∷ []

-- the words of a call of which a part is bad
abbrev pub bad_words : Which → Line
bad_words part = codes "bad-arg" ∷ bad_word part ∷ []

-- the words of the answer to a request
abbrev pub asked_words : Asked → Line
asked_words (asked.Accepted to slot number) =
    codes "accepted" ∷ decimal to ∷ decimal slot ∷ decimal number ∷ []
asked_words asked.Ran = codes "ran" ∷ []
asked_words (asked.BadArg part) = bad_words part
asked_words (asked.Forbidden rule) = forbidden_words rule
asked_words (asked.LockBusy lock) = codes "lock-busy" ∷ decimal lock ∷ []
asked_words asked.Exhausted = codes "worn-out" ∷ []
asked_words asked.NotYet = codes "not-yet" ∷ []

-- the words of the answer to bytes that were delivered
abbrev pub delivered_words : Delivered → Line
delivered_words (delivered.Ran at) = codes "ran" ∷ []
delivered_words (delivered.Notified at notification) = codes "ran" ∷ []
delivered_words (delivered.Duplicate at) = codes "again" ∷ []
delivered_words delivered.Stale = codes "stale" ∷ []
delivered_words (delivered.Returned to slot number) = codes "returned" ∷ []
delivered_words delivered.Late = codes "late" ∷ []
delivered_words (delivered.Deferred lock) = codes "deferred" ∷ decimal lock ∷ []
delivered_words (delivered.Refused reason) = codes "refused" ∷ refusal_word reason ∷ []

-- the words of the answer to taking a lock
abbrev pub lock_words : LockAnswer → Line
lock_words locking.Taken = codes "taken" ∷ []
lock_words locking.Held = codes "held" ∷ []
lock_words (locking.Refused fault) = codes "lock-fault" ∷ lock_fault_word fault ∷ []

-- the words of the answer to giving a lock back
abbrev pub unlock_words : UnlockAnswer → Line
unlock_words unlocking.Freed = codes "freed" ∷ []
unlock_words (unlocking.Refused fault) = codes "lock-fault" ∷ lock_fault_word fault ∷ []

-- ---- transfers and barriers

-- the words of the answer to the beginning of a transfer, where this word stands before its number
abbrev pub begun_words : Word → Begun → Line
begun_words word (begun.Handle handle) = word ∷ decimal handle.serial ∷ []
begun_words word begun.Done = codes "done" ∷ []
begun_words word (begun.BadArg part) = bad_words part
begun_words word begun.TooMany = codes "too-many" ∷ []

-- the words of the answer to the question whether all of it was issued
abbrev pub issued_words : Option Bool → Line
issued_words None = codes "bad-handle" ∷ []
issued_words (Some true) = codes "issued" ∷ []
issued_words (Some false) = codes "not-ready" ∷ []

-- the words of the answer to a synchronisation
abbrev pub synced_words : Synced → Line
synced_words synced.Ok = codes "ok" ∷ []
synced_words synced.NotReady = codes "not-ready" ∷ []
synced_words synced.NotYours = codes "not-yours" ∷ []
synced_words synced.BadHandle = codes "bad-handle" ∷ []
synced_words (synced.Exhausted node) = codes "worn-out" ∷ decimal node ∷ []

-- the words of the answer to a call on access regions
abbrev pub region_words : Region → Line
region_words region.Begun = codes "ok" ∷ []
region_words region.Done = codes "done" ∷ []
region_words (region.Handle handle) = codes "handle" ∷ decimal handle.serial ∷ []
region_words region.Nested = codes "nested" ∷ []
region_words region.NoRegion = codes "no-region" ∷ []
region_words region.InRegion = codes "in-region" ∷ []

-- the words of the answer to a notify
abbrev pub notified_words : Notified → Line
notified_words notified.Ok = codes "ok" ∷ []
notified_words notified.BadFlags = codes "bad-flags" ∷ []
notified_words notified.Twice = codes "twice" ∷ []
notified_words notified.Exhausted = codes "worn-out" ∷ []

-- the words of the answer to a try of the barrier
abbrev pub barrier_words : BarrierAnswer → Line
barrier_words barrier.Ok = codes "ok" ∷ []
barrier_words barrier.Mismatch = codes "mismatch" ∷ []
barrier_words barrier.NotReady = codes "not-ready" ∷ []
barrier_words barrier.NoNotify = codes "no-notify" ∷ []
barrier_words barrier.BadFlags = codes "bad-flags" ∷ []
barrier_words (barrier.Exhausted node) = codes "worn-out" ∷ decimal node ∷ []

-- ---- the local cells and segment

-- the word of bytes that are shown: two digits for each
abbrev pub shown_word : List ℕ → Word
shown_word [] = codes "-"
shown_word (byte ∷ bytes) = flat_map hex_byte (byte ∷ bytes)

-- the words of the answer to a call on the node's own cells or segment, which has these bytes
abbrev pub local_words : (segment : List ℕ) → LocalAnswer → Line
local_words segment local.Done = codes "ok" ∷ []
local_words segment local.Outside = codes "outside" ∷ []
local_words segment local.Unaligned = codes "unaligned" ∷ []
local_words segment (local.Shown offset len) = codes "bytes" ∷ shown_word (part segment offset len) ∷ []
local_words segment (local.Number number) = codes "word" ∷ decimal number ∷ []
local_words segment (local.Cell value) = codes "cell" ∷ signed_decimal value ∷ []

-- ---- ticks

-- the number of the message at each slot of the node `me`, which has this record; 0 where there is none
abbrev pub numbers_of : Parameters → (me : ℕ) → Node EndpointLocal → SlotRef → ℕ
numbers_of settings me node at = unwrap_or (number_in_slot settings me node at) 0

-- this word, and the target, the slot and the number of the request at this slot
abbrev pub sent_words : Word → SlotRef → (number : ℕ) → Line
sent_words word at number = word ∷ decimal at.peer ∷ decimal at.slot ∷ decimal number ∷ []

-- the words of the answer to a tick, by the number at each slot
abbrev pub ticked_words : (SlotRef → ℕ) → Ticked → Line
ticked_words numbers (ticked.Retransmission at) = sent_words (codes "resend") at (numbers at)
ticked_words numbers (ticked.Notification at) = sent_words (codes "note") at (numbers at)
ticked_words numbers (ticked.Chunk at) = sent_words (codes "chunk") at (numbers at)
ticked_words numbers ticked.Nothing = codes "nothing" ∷ []

-- ---- all answers

-- what an answer names of its node: the number at each slot, and the bytes of the segment
pub record Sight : Type 0 where
  pub numbers : SlotRef → ℕ
  pub segment : List ℕ

-- that of the node `me`, which has this record
abbrev pub sight_of : Parameters → (me : ℕ) → Node EndpointLocal → Sight
sight_of settings me node =
    record { numbers = numbers_of settings me node; segment = segment_of settings node.local.core }

-- the words of the answer of a node, by what it names as it stands after it
abbrev pub answer_words : Sight → Answer → Line
answer_words sight (answers.Asked answer) = asked_words answer
answer_words sight answers.Polled = codes "ok" ∷ []
answer_words sight answers.Allowed = codes "allowed" ∷ []
answer_words sight (answers.Forbidden rule) = forbidden_words rule
answer_words sight (answers.Lock answer) = lock_words answer
answer_words sight (answers.Unlock answer) = unlock_words answer
answer_words sight (answers.Begun answer) = begun_words (codes "handle") answer
answer_words sight (answers.Started answer) = begun_words (codes "started") answer
answer_words sight (answers.Issued answer) = issued_words answer
answer_words sight (answers.Synced answer) = synced_words answer
answer_words sight (answers.Region answer) = region_words answer
answer_words sight (answers.Notified answer) = notified_words answer
answer_words sight (answers.Barrier answer) = barrier_words answer
answer_words sight (answers.Local answer) = local_words sight.segment answer
answer_words sight (answers.Delivered answer) = delivered_words answer
answer_words sight (answers.Ticked sent) = ticked_words sight.numbers sent

-- the words of how a transfer of many pieces began
abbrev pub vis_words : Vis → Line
vis_words vis.Whole = codes "whole" ∷ []
vis_words (vis.Part next) = codes "part" ∷ decimal next ∷ []
vis_words vis.TooMany = codes "too-many" ∷ []
vis_words vis.Nested = codes "nested" ∷ []
vis_words (vis.Forbidden rule) = forbidden_words rule
vis_words vis.NoMemory = codes "no-memory" ∷ []
