use Rattle.std.proofs.Common.{sym, ◌∙◌}
use Rattle.part_transfers.specs.Syncs.{whole_of}
use Rattle.part_transfers.proofs.Lists.{fault_stays}
use Rattle.part_transfers.proofs.transfers.Transfers.try_sync_some.Goals as goal

pub returns-in-Some-clause-stands : goal.returns-in-Some-clause-stands
returns-in-Some-clause-stands g c operations S =
    fault_stays c.args.self.now operations c.args.thread c.args.handles.now
    (whole_of c.args.handles.now operations) c.in-Some.fault
    (sym (c.first_fault.ensures operations S) ∙ c.in-Some.is) S

pub returns-in-None-clause-answer : goal.returns-in-None-clause-answer
returns-in-None-clause-answer g c flag F operations S =
    rw (sym (c.first_fault.ensures operations S) ∙ c.in-None.is) (c.sync_some.ensures.answer flag F operations S)
