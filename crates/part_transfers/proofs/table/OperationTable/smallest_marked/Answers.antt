use Rattle.std.proofs.Common.{◌≡◌, ◌+◌, ℕ, Bool, Some, refl, sym, ap, ◌∙◌, subst, arith}
use Rattle.std.proofs.lemmas.Option.{slice_get_within}
use Rattle.part_transfers.specs.declared.table.OperationRecord.{OperationRecord}
use Rattle.part_transfers.specs.Queue.{Queues}
use Rattle.part_transfers.specs.Syncs.{flag_at}
use Rattle.part_transfers.specs.Table.{stands_at}
use Rattle.part_transfers.proofs.Places.{many_places}
use Rattle.part_transfers.proofs.Marks.{mark_is}
use Rattle.part_transfers.proofs.Smallest.{IsSmallest, smallest_none, smallest_more, smallest_is}
use Rattle.part_transfers.proofs.table.OperationTable.smallest_marked.Goals as goal

pub loop-index-init : goal.loop-index-init
loop-index-init g c flag F =
    smallest_none flag (λ place there. flag_at c.args.marks.now place) c.args.self.now c.self.inside.standing 0

pub loop-index-preserved : goal.loop-index-preserved
loop-index-preserved g c flag F =
    let test : ℕ → OperationRecord → Bool = λ place there. flag_at c.args.marks.now place in
    subst (λ found. IsSmallest flag test c.args.self.now c.self.inside.standing 0 (c.loop-index.index + 1) found)
    (sym (c.smaller-found.ensures flag F))
    (smallest_more flag test c.args.self.now c.self.inside.standing 0 c.loop-index.index c.loop-index.found
    c.at-place.result c.at.result c.flag_at.result c.at-place.ensures.here c.at.ensures
    (λ there same. c.flag_at.ensures)
    (c.loop-index.invariant flag F))

pub returns : goal.returns
returns g c flag F test M =
    let standing = c.self.inside.standing in
    let Q = subst (λ ps. Queues (stands_at ps) standing) c.self.view_is c.self.invariant.listed in
    let many = many_places c.self.inside.records c.args.self.now c.self.view_is c.self.invariant.room in
    let past = c.loop-index-test.false in
    smallest_is flag test (λ place there. flag_at c.args.marks.now place) c.args.self.now standing 0 c.loop-index.index
    c.loop-index.found Q
    (λ index entry there at same holds. (let within = slice_get_within standing index entry at in
    (omega arith, omega (arith, within, past, c.len-index-end.ensures.len))))
    (λ place there at. (let within = slice_get_within c.args.self.now place (Some there) at in
    mark_is test c.args.self.now c.args.marks.now place (Some there) M (omega (arith, within, many)) at))
    (c.loop-index.invariant flag F)
