use Rattle.std.proofs.Common.{Bool, take}
use Rattle.part_transfers.specs.declared.table.OperationRecord.{OperationRecord}
use Rattle.part_transfers.specs.Table.{AreMarks, also}
use Rattle.part_transfers.specs.Stands.{whole_in}
use Rattle.part_transfers.proofs.transfers.Transfers.mark_whole.Given as goal

abbrev pub invariant-loop-handle : goal.invariant-loop-handle
invariant-loop-handle l =
    (test : OperationRecord → Bool) → AreMarks test l.self.table l.fn.marks
    → AreMarks (also test (whole_in l.self.table (take l.handle-index l.handles))) l.self.table l.marks
