use Rattle.std.proofs.Common.{sym, ◌∙◌, false}
use Rattle.part_transfers.specs.Syncs.{members_of}
use Rattle.part_transfers.specs.Stands.{member_of_any}
use Rattle.part_transfers.proofs.Lists.{any_agrees, fault_stays}
use Rattle.part_transfers.proofs.Marks.{no_marks, only}
use Rattle.part_transfers.proofs.transfers.Transfers.try_sync_all.Goals as goal

pub returns-in-Some-clause-stands : goal.returns-in-Some-clause-stands
returns-in-Some-clause-stands g c operations S =
    fault_stays c.args.self.now operations c.args.thread c.args.handles.now
    (members_of c.args.handles.now operations) c.in-Some.fault
    (sym (c.first_fault.ensures operations S) ∙ c.in-Some.is) S

pub returns-in-None-clause-answer : goal.returns-in-None-clause-answer
returns-in-None-clause-answer g c flag F operations S =
    let table = c.args.self.now.table in
    let test = member_of_any table c.args.handles.now in
    rw (sym (c.first_fault.ensures operations S) ∙ c.in-None.is)
    (c.sync_marked.ensures.answer flag F operations S (members_of c.args.handles.now operations) test
    (only test table c.mark_all.new.marks (c.mark_all.ensures (λ there. false) (no_marks table)))
    (any_agrees table operations c.args.handles.now S.keeps))

pub returns-in-None-clause-stands : goal.returns-in-None-clause-stands
returns-in-None-clause-stands g c operations S =
    let table = c.args.self.now.table in
    let test = member_of_any table c.args.handles.now in
    c.sync_marked.ensures.stands operations S (members_of c.args.handles.now operations) test
    (only test table c.mark_all.new.marks (c.mark_all.ensures (λ there. false) (no_marks table)))
    (any_agrees table operations c.args.handles.now S.keeps)
