use Rattle.std.proofs.Common.{◌∙◌}
use Rattle.part_transfers.proofs.Oldest.{unissued_is}
use Rattle.part_transfers.proofs.transfers.Transfers.has_unissued.Goals as goal

pub returns : goal.returns
returns c operations S =
    c.is_some.ensures
    ∙ unissued_is c.args.self.now operations c.args.handle.serial c.place_of.result S c.place_of.ensures.found
    c.place_of.ensures.none
