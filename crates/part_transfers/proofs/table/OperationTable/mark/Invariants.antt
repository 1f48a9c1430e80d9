use Rattle.part_transfers.specs.Table.{fits_pick}
use Rattle.part_transfers.proofs.Standing.{IsMarking}
use Rattle.part_transfers.proofs.table.OperationTable.mark.Given as goal

abbrev pub invariant-loop-index : goal.invariant-loop-index
invariant-loop-index l =
    IsMarking (fits_pick l.pick) l.self l.self-inside.standing l.fn.marks l.marks l.from l.index
