use Rattle.part_transfers.specs.Syncs.{members}
use Rattle.part_transfers.specs.Table.{fits_pick}
use Rattle.part_transfers.specs.Stands.{member_in}
use Rattle.part_transfers.proofs.Members.{members_agree, agrees_by}
use Rattle.part_transfers.proofs.transfers.Transfers.fault_of.Goals as goal

pub returns : goal.returns
returns c operations S =
    let table = c.args.self.now.table in
    let handle = c.args.handle in
    c.fault.ensures operations S (members handle operations)
    (agrees_by (members handle operations) (member_in table handle) (fits_pick c.members.result) c.members.ensures
    (members_agree table operations handle S.keeps))
