-- The word by which an answer is counted is the first one of its words.
use Rattle.std.proofs.Common.{◌≡◌, ℕ, List, Bool, true, false, Option, Some, None, refl}
use Rattle.std.specs.Prelude.{codes}
use Rattle.part_handlers.specs.declared.lock_answer.LockAnswer.{LockAnswer}
use Rattle.part_handlers.specs.declared.lock_answer.LockAnswer.TheVariants as locking
use Rattle.part_handlers.specs.declared.lock_answer.UnlockAnswer.{UnlockAnswer}
use Rattle.part_handlers.specs.declared.lock_answer.UnlockAnswer.TheVariants as unlocking
use Rattle.part_barrier.specs.declared.answer.BarrierAnswer.{BarrierAnswer}
use Rattle.part_barrier.specs.declared.answer.BarrierAnswer.TheVariants as barrier
use Rattle.part_barrier.specs.declared.answer.Notified.{Notified}
use Rattle.part_barrier.specs.declared.answer.Notified.TheVariants as notified
use Rattle.spec_node.specs.declared.answer.Asked.{Asked}
use Rattle.spec_node.specs.declared.answer.Asked.TheVariants as asked
use Rattle.spec_node.specs.declared.answer.Delivered.{Delivered}
use Rattle.spec_node.specs.declared.answer.Delivered.TheVariants as delivered
use Rattle.spec_node.specs.declared.answer.SlotRef.{SlotRef}
use Rattle.spec_node.specs.declared.answer.Ticked.{Ticked}
use Rattle.spec_node.specs.declared.answer.Ticked.TheVariants as ticked
use Rattle.part_transfers.specs.declared.operation.Synced.{Synced}
use Rattle.part_transfers.specs.declared.operation.Synced.TheVariants as synced
use Rattle.node_rules.specs.declared.answer.Answer.{Answer}
use Rattle.node_rules.specs.declared.answer.Answer.TheVariants as answers
use Rattle.node_rules.specs.declared.answer.Begun.{Begun}
use Rattle.node_rules.specs.declared.answer.Begun.TheVariants as begun
use Rattle.node_rules.specs.declared.answer.Local.{Local as LocalAnswer}
use Rattle.node_rules.specs.declared.answer.Local.TheVariants as local
use Rattle.node_rules.specs.declared.answer.Region.{Region}
use Rattle.node_rules.specs.declared.answer.Region.TheVariants as region
use Rattle.sim_world.specs.declared.event.WorldAnswer.{WorldAnswer}
use Rattle.sim_world.specs.declared.event.WorldAnswer.TheVariants as world_answers
use Rattle.text_script.specs.AnswerWords.{Sight, asked_words, delivered_words, lock_words, unlock_words, begun_words}
use Rattle.text_script.specs.AnswerWords.{issued_words, synced_words, region_words, notified_words, barrier_words}
use Rattle.text_script.specs.AnswerWords.{local_words, ticked_words}
use Rattle.base_text.specs.LineTexts.{Line}
use Rattle.sim_run.specs.RunText.{world_words}
use Rattle.sim_drill.specs.Counting.{asked_as, delivered_as, ticked_as, counted_by, is_counted}
use Rattle.sim_drill.specs.Summary.{begins_with, counted_word}
use Rattle.sim_drill.specs.declared.counts.Counted.{Counted}
use Rattle.sim_drill.specs.declared.counts.Counted.TheVariants.{Accepted, Chunk, Retransmission, Ran, Duplicate, Stale, Returned}
use Rattle.sim_drill.specs.declared.counts.Counted.TheVariants.{Late, NotYet, Unsent}

-- these words begin with a word exactly where it is the one by which they are counted
abbrev pub AreCountedAs : Line → Option Counted → Type 0
AreCountedAs words counted = (word : Counted) → begins_with (counted_word word) words ≡ is_counted word counted

-- what holds of each word that is counted holds of any
each : (P : Counted → Type 0) → P Accepted → P Chunk → P Retransmission → P Ran → P Duplicate → P Stale → P Returned → P Late
    → P NotYet → P Unsent → (word : Counted) → P word
each P a b c d e f g h i j Accepted = a
each P a b c d e f g h i j Chunk = b
each P a b c d e f g h i j Retransmission = c
each P a b c d e f g h i j Ran = d
each P a b c d e f g h i j Duplicate = e
each P a b c d e f g h i j Stale = f
each P a b c d e f g h i j Returned = g
each P a b c d e f g h i j Late = h
each P a b c d e f g h i j NotYet = i
each P a b c d e f g h i j Unsent = j

asked_counted : (answer : Asked) → AreCountedAs (asked_words answer) (asked_as answer)
asked_counted (asked.Accepted to slot number) = each _ refl refl refl refl refl refl refl refl refl refl
asked_counted asked.Ran = each _ refl refl refl refl refl refl refl refl refl refl
asked_counted (asked.BadArg part) = each _ refl refl refl refl refl refl refl refl refl refl
asked_counted (asked.Forbidden rule) = each _ refl refl refl refl refl refl refl refl refl refl
asked_counted (asked.LockBusy lock) = each _ refl refl refl refl refl refl refl refl refl refl
asked_counted asked.Exhausted = each _ refl refl refl refl refl refl refl refl refl refl
asked_counted asked.NotYet = each _ refl refl refl refl refl refl refl refl refl refl

delivered_counted : (answer : Delivered) → AreCountedAs (delivered_words answer) (delivered_as answer)
delivered_counted (delivered.Ran at) = each _ refl refl refl refl refl refl refl refl refl refl
delivered_counted (delivered.Notified at notification) = each _ refl refl refl refl refl refl refl refl refl refl
delivered_counted (delivered.Duplicate at) = each _ refl refl refl refl refl refl refl refl refl refl
delivered_counted delivered.Stale = each _ refl refl refl refl refl refl refl refl refl refl
delivered_counted (delivered.Returned to slot number) = each _ refl refl refl refl refl refl refl refl refl refl
delivered_counted delivered.Late = each _ refl refl refl refl refl refl refl refl refl refl
delivered_counted (delivered.Deferred lock) = each _ refl refl refl refl refl refl refl refl refl refl
delivered_counted (delivered.Refused reason) = each _ refl refl refl refl refl refl refl refl refl refl

ticked_counted : (numbers : SlotRef → ℕ) (answer : Ticked)
    → AreCountedAs (ticked_words numbers answer) (ticked_as answer)
ticked_counted numbers (ticked.Retransmission at) = each _ refl refl refl refl refl refl refl refl refl refl
ticked_counted numbers (ticked.Notification at) = each _ refl refl refl refl refl refl refl refl refl refl
ticked_counted numbers (ticked.Chunk at) = each _ refl refl refl refl refl refl refl refl refl refl
ticked_counted numbers ticked.Nothing = each _ refl refl refl refl refl refl refl refl refl refl

lock_counted : (answer : LockAnswer) → AreCountedAs (lock_words answer) None
lock_counted locking.Taken = each _ refl refl refl refl refl refl refl refl refl refl
lock_counted locking.Held = each _ refl refl refl refl refl refl refl refl refl refl
lock_counted (locking.Refused fault) = each _ refl refl refl refl refl refl refl refl refl refl

unlock_counted : (answer : UnlockAnswer) → AreCountedAs (unlock_words answer) None
unlock_counted unlocking.Freed = each _ refl refl refl refl refl refl refl refl refl refl
unlock_counted (unlocking.Refused fault) = each _ refl refl refl refl refl refl refl refl refl refl

begun_counted : (answer : Begun) → AreCountedAs (begun_words (codes "handle") answer) None
begun_counted (begun.Handle handle) = each _ refl refl refl refl refl refl refl refl refl refl
begun_counted begun.Done = each _ refl refl refl refl refl refl refl refl refl refl
begun_counted (begun.BadArg part) = each _ refl refl refl refl refl refl refl refl refl refl
begun_counted begun.TooMany = each _ refl refl refl refl refl refl refl refl refl refl

started_counted : (answer : Begun) → AreCountedAs (begun_words (codes "started") answer) None
started_counted (begun.Handle handle) = each _ refl refl refl refl refl refl refl refl refl refl
started_counted begun.Done = each _ refl refl refl refl refl refl refl refl refl refl
started_counted (begun.BadArg part) = each _ refl refl refl refl refl refl refl refl refl refl
started_counted begun.TooMany = each _ refl refl refl refl refl refl refl refl refl refl

issued_counted : (answer : Option Bool) → AreCountedAs (issued_words answer) None
issued_counted None = each _ refl refl refl refl refl refl refl refl refl refl
issued_counted (Some true) = each _ refl refl refl refl refl refl refl refl refl refl
issued_counted (Some false) = each _ refl refl refl refl refl refl refl refl refl refl

synced_counted : (answer : Synced) → AreCountedAs (synced_words answer) None
synced_counted synced.Ok = each _ refl refl refl refl refl refl refl refl refl refl
synced_counted synced.NotReady = each _ refl refl refl refl refl refl refl refl refl refl
synced_counted synced.NotYours = each _ refl refl refl refl refl refl refl refl refl refl
synced_counted synced.BadHandle = each _ refl refl refl refl refl refl refl refl refl refl
synced_counted (synced.Exhausted node) = each _ refl refl refl refl refl refl refl refl refl refl

region_counted : (answer : Region) → AreCountedAs (region_words answer) None
region_counted region.Begun = each _ refl refl refl refl refl refl refl refl refl refl
region_counted region.Done = each _ refl refl refl refl refl refl refl refl refl refl
region_counted (region.Handle handle) = each _ refl refl refl refl refl refl refl refl refl refl
region_counted region.Nested = each _ refl refl refl refl refl refl refl refl refl refl
region_counted region.NoRegion = each _ refl refl refl refl refl refl refl refl refl refl
region_counted region.InRegion = each _ refl refl refl refl refl refl refl refl refl refl

notified_counted : (answer : Notified) → AreCountedAs (notified_words answer) None
notified_counted notified.Ok = each _ refl refl refl refl refl refl refl refl refl refl
notified_counted notified.BadFlags = each _ refl refl refl refl refl refl refl refl refl refl
notified_counted notified.Twice = each _ refl refl refl refl refl refl refl refl refl refl
notified_counted notified.Exhausted = each _ refl refl refl refl refl refl refl refl refl refl

barrier_counted : (answer : BarrierAnswer) → AreCountedAs (barrier_words answer) None
barrier_counted barrier.Ok = each _ refl refl refl refl refl refl refl refl refl refl
barrier_counted barrier.Mismatch = each _ refl refl refl refl refl refl refl refl refl refl
barrier_counted barrier.NotReady = each _ refl refl refl refl refl refl refl refl refl refl
barrier_counted barrier.NoNotify = each _ refl refl refl refl refl refl refl refl refl refl
barrier_counted barrier.BadFlags = each _ refl refl refl refl refl refl refl refl refl refl
barrier_counted (barrier.Exhausted node) = each _ refl refl refl refl refl refl refl refl refl refl

local_counted : (segment : List ℕ) (answer : LocalAnswer) → AreCountedAs (local_words segment answer) None
local_counted segment local.Done = each _ refl refl refl refl refl refl refl refl refl refl
local_counted segment local.Outside = each _ refl refl refl refl refl refl refl refl refl refl
local_counted segment local.Unaligned = each _ refl refl refl refl refl refl refl refl refl refl
local_counted segment (local.Shown offset len) = each _ refl refl refl refl refl refl refl refl refl refl
local_counted segment (local.Number number) = each _ refl refl refl refl refl refl refl refl refl refl
local_counted segment (local.Cell value) = each _ refl refl refl refl refl refl refl refl refl refl

-- of any answer
pub counted_words : (sight : Sight) (answer : WorldAnswer) → AreCountedAs (world_words sight answer) (counted_by answer)
counted_words sight (world_answers.Node (answers.Asked answer)) = asked_counted answer
counted_words sight (world_answers.Node answers.Polled) = each _ refl refl refl refl refl refl refl refl refl refl
counted_words sight (world_answers.Node answers.Allowed) = each _ refl refl refl refl refl refl refl refl refl refl
counted_words sight (world_answers.Node (answers.Forbidden rule)) =
    each _ refl refl refl refl refl refl refl refl refl refl
counted_words sight (world_answers.Node (answers.Lock answer)) = lock_counted answer
counted_words sight (world_answers.Node (answers.Unlock answer)) = unlock_counted answer
counted_words sight (world_answers.Node (answers.Begun answer)) = begun_counted answer
counted_words sight (world_answers.Node (answers.Started answer)) = started_counted answer
counted_words sight (world_answers.Node (answers.Issued answer)) = issued_counted answer
counted_words sight (world_answers.Node (answers.Synced answer)) = synced_counted answer
counted_words sight (world_answers.Node (answers.Region answer)) = region_counted answer
counted_words sight (world_answers.Node (answers.Notified answer)) = notified_counted answer
counted_words sight (world_answers.Node (answers.Barrier answer)) = barrier_counted answer
counted_words sight (world_answers.Node (answers.Local answer)) = local_counted sight.segment answer
counted_words sight (world_answers.Node (answers.Delivered answer)) = delivered_counted answer
counted_words sight (world_answers.Node (answers.Ticked answer)) = ticked_counted sight.numbers answer
counted_words sight world_answers.Unsent = each _ refl refl refl refl refl refl refl refl refl refl
counted_words sight world_answers.NoMemory = each _ refl refl refl refl refl refl refl refl refl refl
