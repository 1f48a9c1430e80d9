use Rattle.std.proofs.Common.{ℕ, Bool}
use Rattle.part_transfers.specs.Syncs.{flag_at}
use Rattle.part_transfers.proofs.Smallest.{IsSmallest}
use Rattle.part_transfers.proofs.table.OperationTable.smallest_marked.Given as goal

abbrev pub invariant-loop-index : goal.invariant-loop-index
invariant-loop-index g l =
    (flag : ℕ → Bool) → g.F.Flags.stands l.flags flag
    → IsSmallest flag (λ place there. flag_at l.marks place) l.self l.self-inside.standing 0 l.index l.found
