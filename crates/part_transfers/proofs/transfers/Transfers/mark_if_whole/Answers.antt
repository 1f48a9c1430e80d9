use Rattle.std.proofs.Common.{◌||◌, sym, ap, ◌∙◌, ◌&&◌}
use Rattle.part_transfers.specs.Table.{also}
use Rattle.part_transfers.specs.Stands.{member_in, whole_here}
use Rattle.part_transfers.proofs.Marks.{marks_by}
use Rattle.part_transfers.proofs.transfers.Transfers.mark_if_whole.Goals as goal

pub returns-then-is_whole : goal.returns-then-is_whole
returns-then-is_whole c test M =
    let table = c.args.self.now.table in
    let member = member_in table c.args.handle.serial in
    marks_by (also test member) (also test (whole_here table c.args.handle)) table c.mark_members.new.marks
    (λ there. ap (λ whole. test there || (whole && member there)) (sym (sym c.is_whole.ensures ∙ c.if-is_whole.true)))
    (c.mark_members.ensures test M)
