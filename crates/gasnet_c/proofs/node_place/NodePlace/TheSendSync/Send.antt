use denote.Param.Send.{IsSend}
use Rattle.gasnet_c.proofs.Crosses.{slot_send}
use Rattle.gasnet_c.specs.contracts.node_place.NodePlace.{the_row}

pub send : IsSend the_row
send = slot_send
