-- The datagrams own nothing, so they may go to another thread.
use denote.Param.Send.{IsSend, owning_send, sendable}
use Rattle.proc_node.specs.contracts.handed.Handed.{the_row, the_type}

pub send : IsSend the_row
send = owning_send the_type (search sendable, tt) (λ d. tt) (λ k x w. tt)
