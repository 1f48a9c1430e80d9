use Rattle.std.proofs.Common.{◌&&◌, Bool, Some, sym, ap, ◌∙◌, subst, arith}
use Rattle.std.proofs.lemmas.Option.{slice_get_within}
use Rattle.part_transfers.specs.declared.table.OperationRecord.{OperationRecord}
use Rattle.part_transfers.specs.Queue.{Queues}
use Rattle.part_transfers.specs.Syncs.{flag_at}
use Rattle.part_transfers.specs.Table.{on_place, picks, passes, stands_at}
use Rattle.part_transfers.proofs.Places.{many_places}
use Rattle.part_transfers.proofs.Tests.{any_from}
use Rattle.part_transfers.proofs.Marks.{mark_is, picks_is}
use Rattle.part_transfers.proofs.Standing.{none_more, none_stands}
use Rattle.part_transfers.proofs.table.OperationTable.has.Goals as goal

pub returns-then-picks : goal.returns-then-picks
returns-then-picks c test M =
    let place = c.at-place.result.place in
    sym (any_from (on_place (λ r. test r && passes c.args.check r)) c.args.self.now place c.at.result c.at.ensures
    (sym (picks_is test c.args.check c.args.self.now c.args.marks.now place c.at.result M c.at-place.ensures.inside
    c.at.ensures)
    ∙ (ap (λ mark. picks mark c.args.check c.at.result) (sym c.flag_at.ensures)
    ∙ (sym c.picks.ensures ∙ c.if-picks.true))))

pub loop-index-preserved : goal.loop-index-preserved
loop-index-preserved c =
    none_more (λ place there. flag_at c.args.marks.now place && passes c.args.check there) c.args.self.now
    c.self.inside.standing 0 c.loop-index.index c.at-place.result c.at.result c.at-place.ensures.here c.at.ensures
    (ap (λ mark. picks mark c.args.check c.at.result) (sym c.flag_at.ensures)
    ∙ (sym c.picks.ensures ∙ c.if-picks.false)) c.loop-index.invariant

pub returns : goal.returns
returns c test M =
    let standing = c.self.inside.standing in
    let Q = subst (λ ps. Queues (stands_at ps) standing) c.self.view_is c.self.invariant.listed in
    let many = many_places c.self.inside.records c.args.self.now c.self.view_is c.self.invariant.room in
    let past = c.loop-index-test.false in
    let passing : OperationRecord → Bool = λ there. test there && passes c.args.check there in
    sym (none_stands passing (λ place there. flag_at c.args.marks.now place && passes c.args.check there)
    c.args.self.now standing 0 c.loop-index.index Q
    (λ index entry there at same holds. (let within = slice_get_within standing index entry at in
    (omega arith, omega (arith, within, past, c.len-index-end.ensures.len))))
    (λ place there at. (let within = slice_get_within c.args.self.now place (Some there) at in
    ap (λ mark. mark && passes c.args.check there)
    (mark_is test c.args.self.now c.args.marks.now place (Some there) M (omega (arith, within, many)) at)))
    c.loop-index.invariant)
