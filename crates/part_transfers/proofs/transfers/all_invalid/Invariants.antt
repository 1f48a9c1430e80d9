use Rattle.std.proofs.Common.{◌≡◌, ◌==◌, drop}
use Rattle.std.specs.List.{list_all}
use Rattle.part_transfers.specs.declared.operation.Handle.{Handle}
use Rattle.part_transfers.proofs.transfers.all_invalid.Given as goal

abbrev pub invariant-loop-handle : goal.invariant-loop-handle
invariant-loop-handle l =
    list_all (λ (handle : Handle). handle.serial == 0) l.handles
    ≡ list_all (λ (handle : Handle). handle.serial == 0) (drop l.handle-index l.handles)
