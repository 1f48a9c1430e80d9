use Rattle.std.proofs.Common.{ℕ, Bool}
use Rattle.part_transfers.proofs.Waiting.{NoneReady}
use Rattle.part_transfers.proofs.table.OperationTable.oldest.Given as goal

abbrev pub invariant-loop-index : goal.invariant-loop-index
invariant-loop-index g l =
    (flag : ℕ → Bool) → g.F.Flags.stands l.can flag → NoneReady flag l.self l.self-inside.queue l.index
