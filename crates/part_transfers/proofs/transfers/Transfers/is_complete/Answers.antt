use Rattle.std.proofs.Common.{sym, ◌∙◌}
use Rattle.part_transfers.proofs.Whole.{whole_is}
use Rattle.part_transfers.proofs.transfers.Transfers.is_complete.Goals as goal

pub returns : goal.returns
returns c operations S =
    c.is_whole.ensures ∙ sym (whole_is c.args.self.now.table operations c.args.handle S.keeps)
