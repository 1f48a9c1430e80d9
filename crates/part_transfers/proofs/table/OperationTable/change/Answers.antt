use Rattle.std.proofs.Common.{◌≡◌, true, inl, if◌then◌else◌, ◌<◌, ◌+◌, Some, set, is_some, refl, sym, ap, ◌∙◌, arith, subst}
use Rattle.std.specs.List.{slice_get}
use Rattle.std.proofs.lemmas.Option.{same_Some, slice_get_within}
use Rattle.slab.specs.Slab.{get, with_value, Updates}
use Rattle.slab.proofs.SlabLemmas.{Updates-with_value}
use Rattle.part_transfers.specs.Queue.{Changes}
use Rattle.part_transfers.specs.Table.{waits_by, stands_by, regions_of}
use Rattle.part_transfers.proofs.Places.{many_places, place_at, places_set, listed_here, indexed_set}
use Rattle.part_transfers.proofs.table.OperationTable.change.Goals as goal
use Rattle.part_transfers.proofs.table.OperationTable.change.Goals.{After-at-was}

pub at-was-requires : goal.at-was-requires
at-was-requires c =
    let within = slice_get_within c.args.self.now c.args.place (Some c.requires.0) c.requires.1 in
    let many = many_places c.self.inside.records c.args.self.now c.self.view_is c.self.invariant.room in
    omega (arith, within, many)

inside : (c : After-at-was) → c.args.place < 256
inside c =
    let within = slice_get_within c.args.self.now c.args.place (Some c.requires.0) c.requires.1 in
    let many = many_places c.self.inside.records c.args.self.now c.self.view_is c.self.invariant.room in
    omega (arith, within, many)

less : (c : After-at-was) → c.args.place < c.self.inside.records.capacity
less c = omega (arith, inside c, c.self.invariant.room)

-- what stood under the key
was : (c : After-at-was) → get c.self.inside.records c.args.place ≡ c.at-was.result
was c =
    same_Some _ _ (sym (place_at c.self.inside.records c.args.place (less c))
    ∙ (ap (λ places. slice_get places c.args.place) c.self.view_is ∙ c.at-was.ensures))

-- a record
taken : (c : After-at-was) → is_some (get c.self.inside.records c.args.place) ≡ true
taken c = ap is_some (was c ∙ same_Some _ _ (sym c.at-was.ensures ∙ c.requires.1))

updates : (c : After-at-was)
    → Updates c.self.inside.records (with_value c.self.inside.records c.args.place c.args.operation) c.args.place
    (Some c.args.operation)
updates c = Updates-with_value c.self.inside.records c.args.place c.args.operation (taken c)

pub change-requires-clause-inside : goal.change-requires-clause-inside
change-requires-clause-inside c = inside (goal.at.change-requires-clause-inside c).After-at-was

pub change-requires-clause-waited : goal.change-requires-clause-waited
change-requires-clause-waited c =
    let before = (goal.at.change-requires-clause-waited c).After-at-was in
    listed_here waits_by c.self.inside.records c.self.inside.queue c.args.place c.waits_by.result (less before)
    c.self.invariant.waiting (ap waits_by (was before) ∙ sym c.waits_by.ensures)

pub index_mut-requires : goal.index_mut-requires
index_mut-requires c = taken (goal.at.index_mut-requires c).After-at-was

pub invariant_of-self : goal.invariant_of-self
invariant_of-self c =
    let fields = c.self.inside in
    let place = c.args.place in
    let now = Some c.args.operation in
    let before = (goal.at.invariant_of-self c).After-at-was in
    let is : c.at-was.result ≡ Some c.requires.0 = same_Some _ _ (sym c.at-was.ensures ∙ c.requires.1) in
    let number : stands_by c.at-was.result ≡ stands_by now = ap stands_by is ∙ ap Some c.requires.2 in
    let region : regions_of c.at-was.result ≡ regions_of now =
    ap regions_of is ∙ ap (λ name. if is_some name then 1 else 0) c.requires.3 in
    indexed_set fields.records (with_value fields.records place c.args.operation) fields.queue c.change.new.self
    fields.standing fields.standing fields.in_regions fields.in_regions place c.at-was.result now c.self.invariant
    (updates before) refl (inside before) (was before)
    (subst (λ old. Changes place old (waits_by now) fields.queue c.change.new.self) c.waits_by.ensures
    (subst (λ later. Changes place c.waits_by.result later fields.queue c.change.new.self) c.waits_by-2.ensures
    c.change.ensures))
    (inl (number, refl)) (ap (λ r. fields.in_regions + r) region)

pub returns : goal.returns
returns c =
    let before = (goal.at.returns c).After-at-was in
    places_set c.self.inside.records (with_value c.self.inside.records c.args.place c.args.operation) c.args.place
    (Some c.args.operation) (updates before) refl (less before)
    ∙ ap (λ places. set places c.args.place (Some c.args.operation)) c.self.view_is
