use Rattle.std.proofs.Common.{◌≡◌, sym, ◌∙◌, subst, []}
use Rattle.slab.specs.Slab.{Slab}
use Rattle.part_transfers.specs.declared.table.OperationRecord.{OperationRecord}
use Rattle.part_transfers.specs.Places.{IsIndexed}
use Rattle.part_transfers.proofs.Places.{places_blank, indexed_blank}
use Rattle.part_transfers.proofs.table.OperationTable.new.Goals as goal

pub invariant_of-result-2 : goal.invariant_of-result-2
invariant_of-result-2 c =
    let slab = c.in_ok-records.records in
    let room : slab.capacity ≡ 256 = sym c.capacity.ensures.value ∙ c.if-capacity-ne256.false in
    let blank = places_blank slab 256 c.in_ok-records.ensures.empty room in
    subst (λ (s : Slab OperationRecord). IsIndexed s c.in_ok-new.field-0 c.in_ok-new-2.field-0 0) (sym c.records.view_is)
    (subst (λ queue. IsIndexed slab queue c.in_ok-new-2.field-0 0) (sym c.in_ok-new.ensures)
    (subst (λ standing. IsIndexed slab [] standing 0) (sym c.in_ok-new-2.ensures) (indexed_blank slab blank room)))
