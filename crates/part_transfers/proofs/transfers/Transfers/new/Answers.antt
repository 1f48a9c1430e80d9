use Rattle.part_transfers.proofs.Began.{stands_none}
use Rattle.part_transfers.proofs.transfers.Transfers.new.Goals as goal

pub returns-clause-stands : goal.returns-clause-stands
returns-clause-stands c =
    stands_none c.in_ok-new.field-0 c.in_ok-new-2.field-0 c.in_ok-new.ensures c.in_ok-new-2.ensures.none
