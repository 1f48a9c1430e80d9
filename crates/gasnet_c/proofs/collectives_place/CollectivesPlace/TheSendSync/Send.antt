use denote.Param.Send.{IsSend}
use Rattle.gasnet_c.proofs.CollectivesCross.{slot_send}
use Rattle.gasnet_c.specs.contracts.collectives_place.CollectivesPlace.{the_row}

pub send : IsSend the_row
send = slot_send
