use Rattle.std.proofs.Common.{ℤ, ◌++◌, codes, rules, subst}
use Rattle.std.specs.Int.{w32}
use Rattle.std.specs.Int.RustNames.{FitsSigned}
use Rattle.std.proofs.lemmas.Int.{to_z-of_z}
use Rattle.base_io.specs.Buffered.{GathersAll, outbox}
use Rattle.text_calls.specs.Calls.{notify_row}
use Rattle.text_calls.specs.Forms.{none_text, values_text}
use Rattle.text_print.proofs.steps.write_waiting.Goals as goal

pub returns-in-Until : goal.returns-in-Until
returns-in-Until g c = rw c.in-Until.is c.write.ensures

pub returns-in-PutBegin : goal.returns-in-PutBegin
returns-in-PutBegin g c = rw c.in-PutBegin.is c.write-in-PutBegin.ensures

pub returns-in-PutImplicit : goal.returns-in-PutImplicit
returns-in-PutImplicit g c = rw c.in-PutImplicit.is c.write-in-PutImplicit.ensures

pub returns-in-Wait : goal.returns-in-Wait
returns-in-Wait g c = rw c.in-Wait.is c.write-in-Wait.ensures

pub returns-in-WaitAll : goal.returns-in-WaitAll
returns-in-WaitAll g c = rw c.in-WaitAll.is c.write_list.ensures

pub returns-in-WaitSome : goal.returns-in-WaitSome
returns-in-WaitSome g c = rw c.in-WaitSome.is c.write_list-in-WaitSome.ensures

pub returns-in-WaitImplicit : goal.returns-in-WaitImplicit
returns-in-WaitImplicit g c = rw c.in-WaitImplicit.is c.write-in-WaitImplicit.ensures

pub returns-in-BarrierWait : goal.returns-in-BarrierWait
returns-in-BarrierWait g c =
    let fits : FitsSigned w32 c.in-BarrierWait.id = search rules in
    let old = outbox g.K.Sink.taken g.K.Sink.faults c.args.sink.now in
    let new = outbox g.K.Sink.taken g.K.Sink.faults c.write_barrier.new.sink in
    let Written = λ (id : ℤ). GathersAll old new
    (codes "barrier-wait" ++ values_text none_text notify_row.shape (id, (c.in-BarrierWait.flags, tt)))
    c.write_barrier.result in
    rw c.in-BarrierWait.is (subst Written (to_z-of_z w32 c.in-BarrierWait.id fits) c.write_barrier.ensures)

pub returns-in-UntilWord : goal.returns-in-UntilWord
returns-in-UntilWord g c = rw c.in-UntilWord.is c.write-in-UntilWord.ensures

pub returns-in-Collective : goal.returns-in-Collective
returns-in-Collective g c = rw c.in-Collective.is c.write_coll.ensures
