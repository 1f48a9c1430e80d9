use Rattle.std.proofs.Common.{◌&&◌}
use Rattle.part_transfers.specs.declared.table.Check.TheVariants.{Open}
use Rattle.part_transfers.specs.Table.{fits_pick, passes}
use Rattle.part_transfers.proofs.Standing.{NoneOf, Tells}
use Rattle.part_transfers.proofs.table.OperationTable.is_settled.Given as goal

abbrev pub invariant-loop-index : goal.invariant-loop-index
invariant-loop-index l = record {
  any : Tells (fits_pick l.pick) l.self l.self-inside.standing l.from l.index l.any;
  settled : NoneOf (λ place there. fits_pick l.pick there && passes (Open l.thread) there) l.self
      l.self-inside.standing l.from l.index;
}
