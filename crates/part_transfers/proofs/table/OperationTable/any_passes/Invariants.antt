use Rattle.std.proofs.Common.{◌&&◌}
use Rattle.part_transfers.specs.Table.{fits_pick, passes}
use Rattle.part_transfers.proofs.Standing.{NoneOf}
use Rattle.part_transfers.proofs.table.OperationTable.any_passes.Given as goal

abbrev pub invariant-loop-index : goal.invariant-loop-index
invariant-loop-index l =
    NoneOf (λ place there. fits_pick l.pick there && passes l.check there) l.self l.self-inside.standing l.from l.index
