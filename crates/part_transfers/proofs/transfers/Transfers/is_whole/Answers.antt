use Rattle.std.proofs.Common.{not, ap, ne_eqb, ◌∙◌}
use Rattle.part_transfers.specs.declared.table.Check.TheVariants.{Unfinished}
use Rattle.part_transfers.specs.Table.{fits_pick}
use Rattle.part_transfers.specs.Stands.{member_in}
use Rattle.part_transfers.proofs.Members.{passing_by}
use Rattle.part_transfers.proofs.transfers.Transfers.is_whole.Goals as goal

pub returns : goal.returns
returns c =
    let table = c.args.self.now.table in
    rw (ne_eqb c.args.handle.serial 0 c.if-handle-eq0.false)
    (ap not (c.any_passes.ensures
    ∙ passing_by (fits_pick c.members.result) (member_in table c.args.handle.serial) Unfinished table c.members.ensures))
