use Rattle.std.proofs.Common.{◌≡◌, ◌||◌, ◌+◌, false, get_or, set, sym, ap, ◌∙◌, subst, arith}
use Rattle.std.proofs.lemmas.Option.{slice_get-get_or}
use Rattle.part_transfers.specs.Queue.{Queues}
use Rattle.part_transfers.specs.Table.{on_place, fits_pick, stands_at}
use Rattle.part_transfers.proofs.Standing.{IsMarking, mark_more, marked_all}
use Rattle.part_transfers.proofs.table.OperationTable.mark.Goals as goal

pub loop-index-preserved : goal.loop-index-preserved
loop-index-preserved c =
    let standing = c.self.inside.standing in
    let now = c.loop-index.marks in
    let place = c.at-place.result.place in
    let mark = get_or now place false in
    let here = slice_get-get_or now place false
    (omega (arith, c.told-marks, c.loop-index.invariant.many, c.at-place.ensures.inside)) in
    let told : c.either.result ≡ (mark || on_place (fits_pick c.args.pick) c.at.result) =
    c.either.ensures ∙ ap (λ is. mark || is) c.is_picked.ensures in
    subst
    (λ x. IsMarking (fits_pick c.args.pick) c.args.self.now standing c.args.marks.now (set now place x) c.run-from.result.0
    (c.loop-index.index + 1))
    (sym told)
    (mark_more (fits_pick c.args.pick) c.args.self.now standing c.args.marks.now now c.run-from.result.0 c.loop-index.index
    c.at-place.result mark c.at.result c.loop-index.invariant c.at-place.ensures.here here c.at.ensures)

pub returns : goal.returns
returns c test M =
    let standing = c.self.inside.standing in
    let Q = subst (λ ps. Queues (stands_at ps) standing) c.self.view_is c.self.invariant.listed in
    let past = c.loop-index-test.false in
    marked_all test (fits_pick c.args.pick) c.args.self.now standing c.args.marks.now c.loop-index.marks c.run-from.result.0
    c.loop-index.index Q M
    (λ index entry there at same holds. (let spot = c.run-from.ensures.all index entry there at same holds in
    (spot.0, omega (arith, spot.1, past))))
    c.loop-index.invariant
