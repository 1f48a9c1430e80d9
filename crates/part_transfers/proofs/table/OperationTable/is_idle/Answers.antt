use Rattle.std.proofs.Common.{not, ap, ◌∙◌}
use Rattle.std.specs.List.{list_any}
use Rattle.part_transfers.specs.Places.{record_places}
use Rattle.part_transfers.specs.Table.{is_unissued, on_place}
use Rattle.part_transfers.proofs.Waiting.{queue_idle}
use Rattle.part_transfers.proofs.table.OperationTable.is_idle.Goals as goal

pub returns : goal.returns
returns c = c.is_empty.ensures
    ∙ (queue_idle (record_places c.self.inside.records) c.self.inside.queue c.self.invariant.waiting
    ∙ ap (λ xs. not (list_any (on_place is_unissued) xs)) c.self.view_is)
