use Rattle.std.proofs.Common.{refl, sym, ne_eqb, eq-eqb}
use Rattle.part_transfers.specs.Table.{also}
use Rattle.part_transfers.specs.Stands.{member_in, member_of}
use Rattle.part_transfers.proofs.Marks.{marks_by}
use Rattle.part_transfers.proofs.Lists.{or_false}
use Rattle.part_transfers.proofs.transfers.Transfers.mark_handle.Goals as goal

pub returns-then-handle-ne0 : goal.returns-then-handle-ne0
returns-then-handle-ne0 c test M =
    marks_by (also test (member_in c.args.self.now.table c.args.handle.serial))
    (also test (member_of c.args.self.now.table c.args.handle)) c.args.self.now.table c.mark_members.new.marks
    (λ there. rw (ne_eqb c.args.handle.serial 0 c.if-handle-ne0.true) refl) (c.mark_members.ensures test M)

pub returns-else-handle-ne0 : goal.returns-else-handle-ne0
returns-else-handle-ne0 c test M =
    marks_by test (also test (member_of c.args.self.now.table c.args.handle)) c.args.self.now.table c.args.marks.now
    (λ there. rw (eq-eqb c.args.handle.serial 0 c.if-handle-ne0.false) (sym (or_false (test there)))) M
