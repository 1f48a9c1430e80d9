use Rattle.part_transfers.specs.Syncs.{implicit_of}
use Rattle.part_transfers.proofs.Members.{implicit_agree}
use Rattle.part_transfers.proofs.transfers.Transfers.try_sync_implicit.Goals as goal

pub returns-clause-answer : goal.returns-clause-answer
returns-clause-answer g c flag F operations S =
    c.sync_picked.ensures.answer flag F operations S (implicit_of c.args.thread c.args.which)
    (implicit_agree c.args.thread c.args.which)

pub returns-clause-stands : goal.returns-clause-stands
returns-clause-stands g c operations S =
    c.sync_picked.ensures.stands operations S (implicit_of c.args.thread c.args.which)
    (implicit_agree c.args.thread c.args.which)
