use Rattle.std.proofs.Common.{◌<◌, ◌+◌, Some, None, refl, sym, ap, ◌∙◌, arith, set, subst}
use Rattle.std.specs.List.{slice_get}
use Rattle.part_transfers.specs.Queue.{Changes}
use Rattle.part_transfers.specs.Table.{taken_count, waits_by, stands_by}
use Rattle.part_transfers.proofs.Places.{place_at, places_set, places_full, listed_here, region_one, few, indexed_set}
use Rattle.part_transfers.proofs.table.OperationTable.insert.Goals as goal
use Rattle.part_transfers.proofs.table.OperationTable.insert.Goals.{After-waits_by}

pub returns-then-len-capacity-clause-full : goal.returns-then-len-capacity-clause-full
returns-then-len-capacity-clause-full c = (
  ap taken_count (sym c.self.view_is)
      ∙ places_full c.self.inside.records (sym c.len.ensures ∙ c.if-len-capacity.true ∙ c.capacity.ensures.value)
      (omega (arith, c.capacity.ensures.slots, c.capacity.ensures.value))
      ∙ c.self.invariant.room,
  refl,
)

less : (c : After-waits_by) → c.insert_reserved-place.result < c.self.inside.records.capacity
less c = omega (arith, c.insert_reserved-place.ensures.key_in_range, c.insert_reserved-place.ensures.capacity)

pub change-requires-clause-waited : goal.change-requires-clause-waited
change-requires-clause-waited c =
    listed_here waits_by c.self.inside.records c.self.inside.queue c.insert_reserved-place.result None (less c)
    c.self.invariant.waiting (ap waits_by c.insert_reserved-place.ensures.was_vacant)

pub change-requires-2-clause-waited : goal.change-requires-2-clause-waited
change-requires-2-clause-waited c =
    listed_here stands_by c.self.inside.records c.self.inside.standing c.insert_reserved-place.result None
    (less (goal.at.change-requires-2-clause-waited c).After-waits_by) c.self.invariant.listed
    (ap stands_by c.insert_reserved-place.ensures.was_vacant)

pub overflow_add-self : goal.overflow_add-self
overflow_add-self c =
    let inside = c.self.inside in
    let most = few inside.records inside.queue inside.standing inside.in_regions c.self.invariant in
    let one = region_one (Some c.args.operation) in
    omega (arith, most, one, c.regions_of.ensures)

pub invariant_of-self : goal.invariant_of-self
invariant_of-self c =
    let inside = c.self.inside in
    let place = c.insert_reserved-place.result in
    let put = c.insert_reserved-place.ensures in
    let within = less (goal.at.invariant_of-self c).After-waits_by in
    indexed_set inside.records c.insert_reserved-place.new.self inside.queue c.change.new.self inside.standing
    c.change-2.new.self inside.in_regions (inside.in_regions + c.regions_of.result) place None (Some c.args.operation)
    c.self.invariant put.updates put.capacity (omega (arith, within, c.self.invariant.room)) put.was_vacant
    (subst (λ now. Changes place None now inside.queue c.change.new.self) c.waits_by.ensures c.change.ensures)
    c.change-2.ensures (omega (arith, c.regions_of.ensures))

pub returns-clause-blank : goal.returns-clause-blank
returns-clause-blank c =
    ap (λ places. slice_get places c.insert_reserved-place.result) (sym c.self.view_is)
    ∙ place_at c.self.inside.records c.insert_reserved-place.result
    (less (goal.at.returns-clause-blank c).After-waits_by)
    ∙ ap Some c.insert_reserved-place.ensures.was_vacant

pub returns-clause-put : goal.returns-clause-put
returns-clause-put c =
    places_set c.self.inside.records c.insert_reserved-place.new.self c.insert_reserved-place.result
    (Some c.args.operation) c.insert_reserved-place.ensures.updates c.insert_reserved-place.ensures.capacity
    (less (goal.at.returns-clause-put c).After-waits_by)
    ∙ ap (λ places. set places c.insert_reserved-place.result (Some c.args.operation)) c.self.view_is
