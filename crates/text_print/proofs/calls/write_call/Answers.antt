use Rattle.std.proofs.Common.{ℤ, ◌++◌, codes, rules, subst}
use Rattle.std.specs.Int.{w32}
use Rattle.std.specs.Int.RustNames.{FitsSigned}
use Rattle.std.proofs.lemmas.Int.{to_z-of_z}
use Rattle.base_io.specs.Buffered.{GathersAll, outbox}
use Rattle.text_calls.specs.Calls.{notify_row}
use Rattle.text_calls.specs.Forms.{none_text, values_text}
use Rattle.text_print.proofs.calls.write_call.Goals as goal

pub returns-in-Short : goal.returns-in-Short
returns-in-Short g c = rw c.in-Short.is c.write_short.ensures

pub returns-in-Medium : goal.returns-in-Medium
returns-in-Medium g c = rw c.in-Medium.is (rw c.text.ensures at c.write_medium.ensures)

pub returns-in-Long : goal.returns-in-Long
returns-in-Long g c = rw c.in-Long.is (rw c.text-in-Long.ensures at c.write_long.ensures)

pub returns-in-LongAsync : goal.returns-in-LongAsync
returns-in-LongAsync g c = rw c.in-LongAsync.is (rw c.text-in-LongAsync.ensures at c.write_long-in-LongAsync.ensures)

pub returns-in-Lock : goal.returns-in-Lock
returns-in-Lock g c = rw c.in-Lock.is c.write.ensures

pub returns-in-Unlock : goal.returns-in-Unlock
returns-in-Unlock g c = rw c.in-Unlock.is c.write-in-Unlock.ensures

pub returns-in-Attempt : goal.returns-in-Attempt
returns-in-Attempt g c = rw c.in-Attempt.is c.write-in-Attempt.ensures

pub returns-in-Cell : goal.returns-in-Cell
returns-in-Cell g c = rw c.in-Cell.is c.write-in-Cell.ensures

pub returns-in-SetCell : goal.returns-in-SetCell
returns-in-SetCell g c = rw c.in-SetCell.is c.write-in-SetCell.ensures

pub returns-in-Show : goal.returns-in-Show
returns-in-Show g c = rw c.in-Show.is c.write-in-Show.ensures

pub returns-in-Set : goal.returns-in-Set
returns-in-Set g c = rw c.in-Set.is c.write-in-Set.ensures

pub returns-in-Fill : goal.returns-in-Fill
returns-in-Fill g c = rw c.in-Fill.is c.write_fill.ensures

pub returns-in-Word : goal.returns-in-Word
returns-in-Word g c = rw c.in-Word.is c.write-in-Word.ensures

pub returns-in-SetWord : goal.returns-in-SetWord
returns-in-SetWord g c = rw c.in-SetWord.is c.write-in-SetWord.ensures

pub returns-in-IsIssued : goal.returns-in-IsIssued
returns-in-IsIssued g c = rw c.in-IsIssued.is c.write-in-IsIssued.ensures

pub returns-in-Sync : goal.returns-in-Sync
returns-in-Sync g c = rw c.in-Sync.is c.write-in-Sync.ensures

pub returns-in-SyncAll : goal.returns-in-SyncAll
returns-in-SyncAll g c = rw c.in-SyncAll.is c.write_list.ensures

pub returns-in-SyncSome : goal.returns-in-SyncSome
returns-in-SyncSome g c = rw c.in-SyncSome.is c.write_list-in-SyncSome.ensures

pub returns-in-SyncImplicit : goal.returns-in-SyncImplicit
returns-in-SyncImplicit g c = rw c.in-SyncImplicit.is c.write-in-SyncImplicit.ensures

pub returns-in-RegionEnd : goal.returns-in-RegionEnd
returns-in-RegionEnd g c = rw c.in-RegionEnd.is c.write-in-RegionEnd.ensures

pub returns-in-Notify : goal.returns-in-Notify
returns-in-Notify g c =
    let fits : FitsSigned w32 c.in-Notify.id = search rules in
    let old = outbox g.K.Sink.taken g.K.Sink.faults c.args.sink.now in
    let new = outbox g.K.Sink.taken g.K.Sink.faults c.write_barrier.new.sink in
    let Written = λ (id : ℤ). GathersAll old new
    (codes "notify" ++ values_text none_text notify_row.shape (id, (c.in-Notify.flags, tt)))
    c.write_barrier.result in
    rw c.in-Notify.is (subst Written (to_z-of_z w32 c.in-Notify.id fits) c.write_barrier.ensures)

pub returns-in-TryBarrier : goal.returns-in-TryBarrier
returns-in-TryBarrier g c =
    let fits : FitsSigned w32 c.in-TryBarrier.id = search rules in
    let old = outbox g.K.Sink.taken g.K.Sink.faults c.args.sink.now in
    let new = outbox g.K.Sink.taken g.K.Sink.faults c.write_barrier-in-TryBarrier.new.sink in
    let Written = λ (id : ℤ). GathersAll old new
    (codes "try-barrier" ++ values_text none_text notify_row.shape (id, (c.in-TryBarrier.flags, tt)))
    c.write_barrier-in-TryBarrier.result in
    rw c.in-TryBarrier.is (subst Written (to_z-of_z w32 c.in-TryBarrier.id fits) c.write_barrier-in-TryBarrier.ensures)

pub returns-in-Atomic : goal.returns-in-Atomic
returns-in-Atomic g c = rw c.in-Atomic.is (rw c.text-in-Atomic.ensures at c.write_batch.ensures)
