use Rattle.part_transfers.specs.Table.{fits_pick}
use Rattle.part_transfers.proofs.Dropping.{IsDropping}
use Rattle.part_transfers.proofs.table.OperationTable.drop_picked.Given as goal

abbrev pub invariant-loop-index : goal.invariant-loop-index
invariant-loop-index l =
    IsDropping (λ place. fits_pick l.pick) l.fn.self l.self-inside.records l.self-inside.queue l.self-inside.standing
    l.self-inside.in_regions l.from l.index
