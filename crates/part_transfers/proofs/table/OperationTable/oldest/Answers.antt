use Rattle.std.proofs.Common.{Some, sym, ap, ◌∙◌, subst, arith}
use Rattle.part_transfers.specs.Queue.{Queues}
use Rattle.part_transfers.specs.Table.{waits_at, is_unissued}
use Rattle.part_transfers.specs.Operation.{target}
use Rattle.std.proofs.Math.Bool.{and-false}
use Rattle.part_transfers.proofs.Waiting.{ready_some, ready_more, least_none, least_some}
use Rattle.part_transfers.proofs.table.OperationTable.oldest.Goals as goal

pub returns-then-not-may_be_set-clause-least : goal.returns-then-not-may_be_set-clause-least
returns-then-not-may_be_set-clause-least g c flag F place there at =
    rw (c.may_be_set.ensures flag F (grind (arith, c.if-not-may_be_set.true)) (target there.transfer))
    (and-false (is_unissued there))

pub returns-in-Some-clause-least : goal.returns-in-Some-clause-least
returns-in-Some-clause-least g c flag F =
    let places = c.args.self.now in
    let queue = c.self.inside.queue in
    let Q = subst (λ ps. Queues (waits_at ps) queue) c.self.view_is c.self.invariant.waiting in
    let found = ready_some flag c.at.result c.in-Some.operation (sym (c.in-Some.ensures.ready flag F)) in
    least_some flag places queue c.loop-index.index c.at-place.result c.in-Some.operation Q
    c.len-index-end.ensures.queue c.at-place.ensures.here (c.at.ensures ∙ ap Some found.0) found.1 (c.loop-index.invariant flag F)

pub loop-index-preserved : goal.loop-index-preserved
loop-index-preserved g c flag F =
    ready_more flag c.args.self.now c.self.inside.queue c.loop-index.index c.at-place.result
    c.at.result c.at-place.ensures.here c.at.ensures (sym (c.in_default.ensures.ready flag F)) (c.loop-index.invariant flag F)

pub returns-clause-least : goal.returns-clause-least
returns-clause-least g c flag F =
    let queue = c.self.inside.queue in
    let Q = subst (λ ps. Queues (waits_at ps) queue) c.self.view_is c.self.invariant.waiting in
    let past = c.loop-index-test.false in
    least_none flag c.args.self.now queue c.loop-index.index Q (omega (arith, past))
    (c.loop-index.invariant flag F)

pub returns-in-Some-clause-unissued : goal.returns-in-Some-clause-unissued
returns-in-Some-clause-unissued g c = (
  c.at-place.result.place,
  c.at.ensures ∙ ap Some c.in-Some.ensures.unissued.0,
  c.in-Some.ensures.unissued.1,
)
