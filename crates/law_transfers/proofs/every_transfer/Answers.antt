use Rattle.law_transfers.proofs.every_transfer.Goals as goal
use Rattle.law_transfers.proofs.Laws.{transfers_hold}

pub returns : goal.returns
returns c = record { laws = transfers_hold }
