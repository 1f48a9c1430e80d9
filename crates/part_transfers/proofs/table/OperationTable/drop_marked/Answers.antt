use Rattle.std.proofs.Common.{◌-◌, inl, inr, Some, sym, ◌∙◌, arith}
use Rattle.std.proofs.lemmas.Option.{slice_get_within}
use Rattle.part_transfers.specs.Syncs.{flag_at}
use Rattle.part_transfers.specs.Places.{record_places}
use Rattle.part_transfers.proofs.Places.{many_places}
use Rattle.part_transfers.proofs.Marks.{mark_is}
use Rattle.part_transfers.proofs.Standing.{record_of}
use Rattle.part_transfers.proofs.Dropping.{dropping_from, dropping_kept, dropping_gone, dropped_all}
use Rattle.part_transfers.proofs.table.OperationTable.drop_marked.Goals as goal

pub loop-index-init : goal.loop-index-init
loop-index-init c =
    let inside = c.self.inside in
    dropping_from (λ place there. flag_at c.args.marks.now place) c.args.self.now inside.records inside.queue
    inside.standing inside.in_regions 0 c.len-index.result c.self.view_is c.self.invariant
    (omega (arith, c.len-index.ensures.len))
    (λ index entry there outside at here. (let within = slice_get_within inside.standing index entry at in
    elim outside [
      | inl low ↦ absurd (omega (arith, low))
      | inr past ↦ absurd (omega (arith, past, within, c.len-index.ensures.len))
    ]))

pub at-requires : goal.at-requires
at-requires c = omega (arith, c.loop-index.invariant.within, c.loop-index-test.true)

pub drop_at-requires : goal.drop_at-requires
drop_at-requires c = record {
  within = omega (arith, c.loop-index.invariant.within, c.loop-index-test.true);
  indexed = c.loop-index.invariant.indexed;
}

pub loop-index-preserved-then-flag_at : goal.loop-index-preserved-then-flag_at
loop-index-preserved-then-flag_at c =
    let inside = c.loop-index.self-inside in
    let known = c.loop-index.invariant in
    let there = record_of (record_places inside.records) inside.standing (c.loop-index.index - 1) c.at.result
    known.indexed.listed c.at.ensures.here in
    dropping_gone (λ place there. flag_at c.args.marks.now place) c.args.self.now inside.records c.drop_at.new.records
    inside.queue c.drop_at.new.queue inside.standing c.drop_at.new.standing inside.in_regions c.drop_at.new.in_regions
    0 c.loop-index.index c.at.result there.0 known c.loop-index-test.true c.at.ensures.here there.1
    (sym c.flag_at.ensures ∙ c.if-flag_at.true) c.drop_at.ensures.indexed c.drop_at.ensures.standing
    (c.drop_at.ensures.gone c.at.result c.at.ensures.here)

pub loop-index-preserved : goal.loop-index-preserved
loop-index-preserved c =
    let inside = c.loop-index.self-inside in
    dropping_kept (λ place there. flag_at c.args.marks.now place) c.args.self.now inside.records inside.queue
    inside.standing inside.in_regions 0 c.loop-index.index c.at.result c.loop-index.invariant c.loop-index-test.true
    c.at.ensures.here (λ there stands. sym c.flag_at.ensures ∙ c.if-flag_at.false)

pub invariant_of-self : goal.invariant_of-self
invariant_of-self c = c.loop-index.invariant.indexed

pub returns : goal.returns
returns c test M =
    let inside = c.loop-index.self-inside in
    let many = many_places c.self.inside.records c.args.self.now c.self.view_is c.self.invariant.room in
    dropped_all (λ place there. flag_at c.args.marks.now place) test c.args.self.now inside.records inside.queue
    inside.standing inside.in_regions 0 c.loop-index.index c.loop-index.invariant c.loop-index-test.false
    (λ place there at. (let within = slice_get_within c.args.self.now place (Some there) at in
    mark_is test c.args.self.now c.args.marks.now place (Some there) M (omega (arith, within, many)) at))
