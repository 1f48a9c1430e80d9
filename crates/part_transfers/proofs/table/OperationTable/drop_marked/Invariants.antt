use Rattle.part_transfers.specs.Syncs.{flag_at}
use Rattle.part_transfers.proofs.Dropping.{IsDropping}
use Rattle.part_transfers.proofs.table.OperationTable.drop_marked.Given as goal

abbrev pub invariant-loop-index : goal.invariant-loop-index
invariant-loop-index l =
    IsDropping (λ place there. flag_at l.marks place) l.fn.self l.self-inside.records l.self-inside.queue
    l.self-inside.standing l.self-inside.in_regions 0 l.index
