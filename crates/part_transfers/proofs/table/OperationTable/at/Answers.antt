use Rattle.std.proofs.Common.{Some, sym, ap, ◌∙◌, arith}
use Rattle.std.specs.List.{slice_get}
use Rattle.part_transfers.proofs.Places.{place_at}
use Rattle.part_transfers.proofs.table.OperationTable.at.Goals as goal

pub returns : goal.returns
returns c =
    ap (λ places. slice_get places c.args.place) (sym c.self.view_is)
    ∙ place_at c.self.inside.records c.args.place (omega (arith, c.requires, c.self.invariant.room))
    ∙ ap Some (sym (c.copied.ensures ∙ c.get.ensures))
