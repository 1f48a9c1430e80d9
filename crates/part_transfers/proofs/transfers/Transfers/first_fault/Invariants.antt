use Rattle.std.proofs.Common.{◌≡◌, List, drop}
use Rattle.part_transfers.specs.Operation.{Operation}
use Rattle.part_transfers.specs.Syncs.{fault_of}
use Rattle.part_transfers.specs.Stands.{Stands}
use Rattle.part_transfers.proofs.transfers.Transfers.first_fault.Given as goal

abbrev pub invariant-loop-handle : goal.invariant-loop-handle
invariant-loop-handle l =
    (operations : List Operation) → Stands l.self operations
    → fault_of l.thread operations l.handles ≡ fault_of l.thread operations (drop l.handle-index l.handles)
