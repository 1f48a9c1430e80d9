use Rattle.std.proofs.Common.{◌≡◌, drop}
use Rattle.std.specs.List.{list_any}
use Rattle.part_transfers.specs.Stands.{is_whole_in}
use Rattle.part_transfers.proofs.transfers.Transfers.any_whole.Given as goal

abbrev pub invariant-loop-handle : goal.invariant-loop-handle
invariant-loop-handle l =
    list_any (is_whole_in l.self.table) l.handles ≡ list_any (is_whole_in l.self.table) (drop l.handle-index l.handles)
