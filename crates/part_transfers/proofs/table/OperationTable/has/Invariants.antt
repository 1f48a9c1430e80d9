use Rattle.std.proofs.Common.{◌&&◌}
use Rattle.part_transfers.specs.Syncs.{flag_at}
use Rattle.part_transfers.specs.Table.{passes}
use Rattle.part_transfers.proofs.Standing.{NoneOf}
use Rattle.part_transfers.proofs.table.OperationTable.has.Given as goal

abbrev pub invariant-loop-index : goal.invariant-loop-index
invariant-loop-index l =
    NoneOf (λ place there. flag_at l.marks place && passes l.check there) l.self l.self-inside.standing 0 l.index
