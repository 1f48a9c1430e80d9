-- A sieve before a link may go to another thread where the link may.
use denote.RattleType.{RattleType}
use denote.Param.Send.{IsSend, sendable}
use Rattle.std.proofs.Crossing.{crosses}
use Rattle.base_io.specs.declared.link.Link.{Ghosts as LinkGhosts}
use Rattle.base_io.proofs.sieve.Sieve.TheSendSync.{the_send as sieve_send}
use Rattle.proc_node.specs.contracts.sieved.Sieved.{the_row}
use Rattle.proc_node.proofs.handed.Handed.TheSendSync.{the_send as handed_send}

pub sieved_send : (T : RattleType) (l : LinkGhosts T.Denot) → IsSend T → IsSend (the_row T l)
sieved_send T l s = search (sendable, crosses, handed_send, sieve_send) depth 40
