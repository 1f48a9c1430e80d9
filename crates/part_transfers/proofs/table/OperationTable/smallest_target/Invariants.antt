use Rattle.std.proofs.Common.{ℕ, Bool}
use Rattle.part_transfers.specs.Table.{fits_pick}
use Rattle.part_transfers.proofs.Smallest.{IsSmallest}
use Rattle.part_transfers.proofs.table.OperationTable.smallest_target.Given as goal

abbrev pub invariant-loop-index : goal.invariant-loop-index
invariant-loop-index g l =
    (flag : ℕ → Bool) → g.F.Flags.stands l.flags flag
    → IsSmallest flag (λ place. fits_pick l.pick) l.self l.self-inside.standing l.from l.index l.found
