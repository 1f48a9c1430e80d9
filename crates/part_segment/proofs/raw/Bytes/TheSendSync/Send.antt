use denote.Param.Send.{IsSend}
use Rattle.part_segment.proofs.Crosses.{Bytes-send}
use Rattle.part_segment.specs.contracts.raw.Bytes.{the_row}

pub send : IsSend the_row
send = Bytes-send
