use Rattle.std.proofs.Common.{Bool, take}
use Rattle.part_transfers.specs.declared.table.OperationRecord.{OperationRecord}
use Rattle.part_transfers.specs.Table.{AreMarks, also}
use Rattle.part_transfers.specs.Stands.{member_of_any}
use Rattle.part_transfers.proofs.transfers.Transfers.mark_all.Given as goal

abbrev pub invariant-loop-handle : goal.invariant-loop-handle
invariant-loop-handle l =
    (test : OperationRecord → Bool) → AreMarks test l.self.table l.fn.marks
    → AreMarks (also test (member_of_any l.self.table (take l.handle-index l.handles))) l.self.table l.marks
