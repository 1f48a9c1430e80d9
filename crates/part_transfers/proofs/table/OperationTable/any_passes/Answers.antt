use Rattle.std.proofs.Common.{◌&&◌, Bool, refl, sym, ◌∙◌, subst, arith}
use Rattle.std.proofs.lemmas.Bool.{and_parts}
use Rattle.part_transfers.specs.declared.table.OperationRecord.{OperationRecord}
use Rattle.part_transfers.specs.Queue.{Queues}
use Rattle.part_transfers.specs.Table.{on_place, fits_pick, passes, stands_at}
use Rattle.part_transfers.proofs.Tests.{any_from}
use Rattle.part_transfers.proofs.Standing.{none_more, none_stands}
use Rattle.part_transfers.proofs.table.OperationTable.any_passes.Goals as goal

pub returns-then-is_match : goal.returns-then-is_match
returns-then-is_match c =
    sym (any_from (on_place (λ r. fits_pick c.args.pick r && passes c.args.check r)) c.args.self.now
    c.at-place.result.place c.at.result c.at.ensures (sym c.is_match.ensures ∙ c.if-is_match.true))

pub loop-index-preserved : goal.loop-index-preserved
loop-index-preserved c =
    none_more (λ place there. fits_pick c.args.pick there && passes c.args.check there) c.args.self.now
    c.self.inside.standing c.run-from.result.0 c.loop-index.index c.at-place.result c.at.result c.at-place.ensures.here
    c.at.ensures (sym c.is_match.ensures ∙ c.if-is_match.false) c.loop-index.invariant

pub returns : goal.returns
returns c =
    let standing = c.self.inside.standing in
    let Q = subst (λ ps. Queues (stands_at ps) standing) c.self.view_is c.self.invariant.listed in
    let past = c.loop-index-test.false in
    let test : OperationRecord → Bool = λ there. fits_pick c.args.pick there && passes c.args.check there in
    sym (none_stands test (λ place. test) c.args.self.now standing c.run-from.result.0 c.loop-index.index Q
    (λ index entry there at same holds. (let spot = c.run-from.ensures.all index entry there at same
    (and_parts (fits_pick c.args.pick there) (passes c.args.check there) holds).0 in
    (spot.0, omega (arith, spot.1, past))))
    (λ place there at. refl) c.loop-index.invariant)
