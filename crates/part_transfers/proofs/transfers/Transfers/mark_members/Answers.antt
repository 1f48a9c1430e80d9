use Rattle.std.proofs.Common.{ap, ◌||◌}
use Rattle.part_transfers.specs.Table.{also, fits_pick}
use Rattle.part_transfers.specs.Stands.{member_in}
use Rattle.part_transfers.proofs.Marks.{marks_by}
use Rattle.part_transfers.proofs.transfers.Transfers.mark_members.Goals as goal

pub returns : goal.returns
returns c test M =
    marks_by (also test (fits_pick c.members.result)) (also test (member_in c.args.self.now.table c.args.handle))
    c.args.self.now.table c.mark.new.marks (λ there. ap (λ member. test there || member) (c.members.ensures there))
    (c.mark.ensures test M)
