use Rattle.std.proofs.Common.{◌≡◌, ◌<◌, ◌-◌, inr, Some, None, is_some, set, refl, sym, ap, ◌∙◌, arith, subst}
use Rattle.std.proofs.lemmas.Option.{same_Some}
use Rattle.part_transfers.specs.declared.queue.Queued.{Queued}
use Rattle.part_transfers.specs.Queue.{Changes}
use Rattle.part_transfers.specs.Table.{waits_by, stands_by}
use Rattle.part_transfers.specs.Places.{record_places}
use Rattle.part_transfers.proofs.Places.{place_at, places_set, listed_here, counted, indexed_set}
use Rattle.part_transfers.proofs.Queueing.{queue_left}
use Rattle.part_transfers.proofs.Standing.{record_of}
use Rattle.part_transfers.proofs.table.drop_at.Goals as goal
use Rattle.part_transfers.proofs.table.drop_at.Goals.{After-waits_by}

less : (c : After-waits_by) → c.at-place.result.place < c.args.records.now.capacity
less c = omega (arith, c.at-place.ensures.inside, c.requires.indexed.room)

pub change-requires-clause-waited : goal.change-requires-clause-waited
change-requires-clause-waited c =
    listed_here waits_by c.args.records.now c.args.queue.now c.at-place.result.place c.waits_by.result (less c)
    c.requires.indexed.waiting (ap waits_by (sym c.try_remove-removed.ensures.value) ∙ sym c.waits_by.ensures)

pub overflow_sub-in_regions : goal.overflow_sub-in_regions
overflow_sub-in_regions c =
    let one = counted c.args.records.now c.args.queue.now c.args.standing.now c.args.in_regions.now c.at-place.result.place
    c.try_remove-removed.result c.requires.indexed c.at-place.ensures.inside (sym c.try_remove-removed.ensures.value) in
    omega (arith, one, c.regions_of.ensures)

pub returns-clause-indexed : goal.returns-clause-indexed
returns-clause-indexed c =
    let records = c.args.records.now in
    let queue = c.args.queue.now in
    let standing = c.args.standing.now in
    let many = c.args.in_regions.now in
    let place = c.at-place.result.place in
    let removed = c.try_remove-removed.result in
    let gone = c.try_remove-removed.ensures in
    let before = (goal.at.returns-clause-indexed c).After-waits_by in
    let there = record_of (record_places records) standing c.args.index c.at-place.result c.requires.indexed.listed
    c.at-place.ensures.here in
    let is : removed ≡ Some there.0 = gone.value ∙ same_Some _ _ (sym (place_at records place (less before)) ∙ there.1) in
    let one = counted records queue standing many place removed c.requires.indexed c.at-place.ensures.inside
    (sym gone.value) in
    indexed_set records c.try_remove-removed.new.self queue c.change.new.self standing c.remove.new.self many
    (many - c.regions_of.result) place removed None c.requires.indexed gone.updates gone.capacity
    c.at-place.ensures.inside (sym gone.value)
    (subst (λ was. Changes place was None queue c.change.new.self) c.waits_by.ensures c.change.ensures)
    (inr (
      c.remove.new.self,
      queue_left place (stands_by removed) standing c.remove.new.self c.args.index
          (ap (λ found. is_some (stands_by found)) is)
          (record { entry = c.at-place.result; here = c.at-place.ensures.here; same = refl }) c.remove.ensures.is
          c.remove.ensures.queue,
      refl,
    ))
    (omega (arith, one, c.regions_of.ensures))

pub returns-clause-gone : goal.returns-clause-gone
returns-clause-gone c entry at =
    let before = (goal.at.returns-clause-gone c).After-waits_by in
    let is : c.at-place.result ≡ entry = same_Some c.at-place.result entry (sym c.at-place.ensures.here ∙ at) in
    places_set c.args.records.now c.try_remove-removed.new.self c.at-place.result.place None
    c.try_remove-removed.ensures.updates c.try_remove-removed.ensures.capacity (less before)
    ∙ ap (λ (y : Queued). set (record_places c.args.records.now) y.place None) is
