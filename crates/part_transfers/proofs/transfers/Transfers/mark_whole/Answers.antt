use Rattle.std.proofs.Common.{◌+◌, ◌||◌, sym, ap, ◌∙◌, take, get_or, arith, subst}
use Rattle.std.proofs.lemmas.List.{take_all}
use Rattle.part_transfers.specs.declared.operation.Handle.{Handle}
use Rattle.part_transfers.specs.Table.{AreMarks, also}
use Rattle.part_transfers.specs.Stands.{whole_here, whole_in}
use Rattle.part_transfers.proofs.Marks.{marks_by}
use Rattle.part_transfers.proofs.Lists.{any_take, or_assoc, at_get}
use Rattle.part_transfers.proofs.transfers.Transfers.mark_whole.Goals as goal

pub loop-handle-preserved : goal.loop-handle-preserved
loop-handle-preserved c test M =
    let table = c.args.self.now.table in
    let index = c.loop-handle.handle-index in
    let before = also test (whole_in table (take index c.args.handles.now)) in
    let handle : Handle = get_or c.args.handles.now index (record { serial = 0 }) in
    let within = c.loop-handle-test.true in
    marks_by (also before (whole_here table handle)) (also test (whole_in table (take (index + 1) c.args.handles.now)))
    table c.mark_if_whole.new.marks
    (λ there.
    or_assoc (test there) (whole_in table (take index c.args.handles.now) there) (whole_here table handle there)
    ∙ ap (λ later. test there || later)
    (sym (any_take (λ (h : Handle). whole_here table h there) c.args.handles.now index handle
    (at_get c.args.handles.now index (record { serial = 0 }) (omega (arith, within))))))
    (c.mark_if_whole.ensures before (c.loop-handle.invariant test M))

pub returns : goal.returns
returns c test M =
    let past = c.loop-handle-test.false in
    subst (λ handles. AreMarks (also test (whole_in c.args.self.now.table handles)) c.args.self.now.table
    c.loop-handle.marks)
    (take_all c.loop-handle.handle-index c.args.handles.now (omega (arith, past))) (c.loop-handle.invariant test M)
