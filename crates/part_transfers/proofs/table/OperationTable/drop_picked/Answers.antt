use Rattle.std.proofs.Common.{◌≡◌, ◌-◌, inl, inr, Some, refl, sym, ap, ◌∙◌, arith}
use Rattle.std.specs.List.{slice_get}
use Rattle.std.proofs.lemmas.Bool.{cases_Bool}
use Rattle.std.proofs.lemmas.Option.{same_Some}
use Rattle.part_transfers.specs.declared.table.OperationRecord.{OperationRecord}
use Rattle.part_transfers.specs.Table.{on_place, fits_pick}
use Rattle.part_transfers.specs.Places.{record_places}
use Rattle.part_transfers.proofs.Places.{place_at}
use Rattle.part_transfers.proofs.Standing.{record_of}
use Rattle.part_transfers.proofs.Dropping.{dropping_from, dropping_kept, dropping_gone, dropped_all}
use Rattle.part_transfers.proofs.table.OperationTable.drop_picked.Goals as goal
use Rattle.part_transfers.proofs.table.OperationTable.drop_picked.Goals.{After-is_picked}

pub loop-index-init : goal.loop-index-init
loop-index-init c =
    let inside = c.self.inside in
    dropping_from (λ place. fits_pick c.args.pick) c.args.self.now inside.records inside.queue inside.standing
    inside.in_regions c.run-from.result.0 c.run-from.result.1 c.self.view_is c.self.invariant c.run-from.ensures.within
    (λ index entry there outside at here. elim (cases_Bool (fits_pick c.args.pick there)) [
      | inr isnt ↦ isnt
      | inl is ↦ (
          let found = record_of (record_places inside.records) inside.standing index entry c.self.invariant.listed at in
          let same : found.0 ≡ there = same_Some _ _ (same_Some _ _ (sym found.1
          ∙ (ap (λ places. slice_get places entry.place) c.self.view_is ∙ here))) in
          let spot = c.run-from.ensures.all index entry there at
          (ap (λ (r : OperationRecord). r.number) (sym same) ∙ found.2) is in
          elim outside [
            | inl low ↦ absurd (omega (arith, low, spot.0))
            | inr past ↦ absurd (omega (arith, past, spot.1))
          ])
    ])

pub at-place-requires : goal.at-place-requires
at-place-requires c = omega (arith, c.loop-index.invariant.within, c.loop-index-test.true)

pub drop_at-requires : goal.drop_at-requires
drop_at-requires c = record {
  within = omega (arith, c.loop-index.invariant.within, c.loop-index-test.true);
  indexed = c.loop-index.invariant.indexed;
}

-- what was looked at
seen : (c : After-is_picked)
    → slice_get (record_places c.loop-index.self-inside.records) c.at-place.result.place ≡ Some c.copied.result
seen c =
    place_at c.loop-index.self-inside.records c.at-place.result.place
    (omega (arith, c.at-place.ensures.inside, c.loop-index.invariant.indexed.room))
    ∙ ap Some (sym (c.copied.ensures ∙ c.get.ensures))

pub loop-index-preserved-then-is_picked : goal.loop-index-preserved-then-is_picked
loop-index-preserved-then-is_picked c =
    let inside = c.loop-index.self-inside in
    let known = c.loop-index.invariant in
    let before = (goal.at.loop-index-preserved-then-is_picked c).After-is_picked in
    let there = record_of (record_places inside.records) inside.standing (c.loop-index.index - 1) c.at-place.result
    known.indexed.listed c.at-place.ensures.here in
    let is : c.copied.result ≡ Some there.0 = same_Some _ _ (sym (seen before) ∙ there.1) in
    dropping_gone (λ place. fits_pick c.args.pick) c.args.self.now inside.records c.drop_at.new.records inside.queue
    c.drop_at.new.queue inside.standing c.drop_at.new.standing inside.in_regions c.drop_at.new.in_regions
    c.run-from.result.0 c.loop-index.index c.at-place.result there.0 known c.loop-index-test.true
    c.at-place.ensures.here there.1
    (ap (on_place (fits_pick c.args.pick)) (sym is) ∙ (sym c.is_picked.ensures ∙ c.if-is_picked.true))
    c.drop_at.ensures.indexed c.drop_at.ensures.standing (c.drop_at.ensures.gone c.at-place.result c.at-place.ensures.here)

pub loop-index-preserved : goal.loop-index-preserved
loop-index-preserved c =
    let inside = c.loop-index.self-inside in
    let before = (goal.at.loop-index-preserved c).After-is_picked in
    dropping_kept (λ place. fits_pick c.args.pick) c.args.self.now inside.records inside.queue inside.standing
    inside.in_regions c.run-from.result.0 c.loop-index.index c.at-place.result c.loop-index.invariant
    (let more = c.loop-index-test.true in omega (arith, more)) c.at-place.ensures.here
    (λ there stands. (let is : c.copied.result ≡ Some there = same_Some _ _ (sym (seen before) ∙ stands) in
    ap (on_place (fits_pick c.args.pick)) (sym is) ∙ (sym c.is_picked.ensures ∙ c.if-is_picked.false)))

pub invariant_of-self : goal.invariant_of-self
invariant_of-self c = c.loop-index.invariant.indexed

pub returns : goal.returns
returns c =
    let inside = c.loop-index.self-inside in
    dropped_all (λ place. fits_pick c.args.pick) (fits_pick c.args.pick) c.args.self.now inside.records inside.queue
    inside.standing inside.in_regions c.run-from.result.0 c.loop-index.index c.loop-index.invariant
    c.loop-index-test.false (λ place there at. refl)
