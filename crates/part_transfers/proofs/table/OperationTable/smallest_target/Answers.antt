use Rattle.std.proofs.Common.{◌≡◌, ◌+◌, Bool, Some, refl, sym, ap, ◌∙◌, subst, arith}
use Rattle.part_transfers.specs.declared.table.OperationRecord.{OperationRecord}
use Rattle.part_transfers.specs.Queue.{Queues}
use Rattle.part_transfers.specs.Table.{on_place, fits_pick, stands_at}
use Rattle.part_transfers.proofs.Smallest.{IsSmallest, smallest_none, smallest_more, smallest_is}
use Rattle.part_transfers.proofs.table.OperationTable.smallest_target.Goals as goal

pub loop-index-init : goal.loop-index-init
loop-index-init g c flag F =
    smallest_none flag (λ place. fits_pick c.args.pick) c.args.self.now c.self.inside.standing c.run-from.result.0

pub loop-index-preserved : goal.loop-index-preserved
loop-index-preserved g c flag F =
    let test = fits_pick c.args.pick in
    let from = c.run-from.result.0 in
    subst
    (λ found. IsSmallest flag (λ place. test) c.args.self.now c.self.inside.standing from (c.loop-index.index + 1) found)
    (sym (c.smaller-found.ensures flag F))
    (smallest_more flag (λ place. test) c.args.self.now c.self.inside.standing from c.loop-index.index c.loop-index.found
    c.at.result c.at-place.result c.is_picked.result c.at.ensures.here c.at-place.ensures
    (λ there same. c.is_picked.ensures ∙ ap (on_place test) same)
    (c.loop-index.invariant flag F))

pub returns : goal.returns
returns g c flag F =
    let standing = c.self.inside.standing in
    let Q = subst (λ ps. Queues (stands_at ps) standing) c.self.view_is c.self.invariant.listed in
    let past = c.loop-index-test.false in
    smallest_is flag (fits_pick c.args.pick) (λ place. fits_pick c.args.pick) c.args.self.now standing
    c.run-from.result.0 c.loop-index.index c.loop-index.found Q
    (λ index entry there at same holds. (let spot = c.run-from.ensures.all index entry there at same holds in
    (spot.0, omega (arith, spot.1, past))))
    (λ place there at. refl) (c.loop-index.invariant flag F)
