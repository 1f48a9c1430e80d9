-- What a caller at a node stands for, where C sends the node's datagrams.
use Rattle.std.specs.Prelude.{Option}
use Rattle.spec_node.specs.Record.{Node}
use Rattle.spec_node.specs.declared.answer.SlotRef.{SlotRef}
use Rattle.node_rules.specs.EndpointLocal.{EndpointLocal}
use Rattle.node_rules.specs.Sends.{sends}
use Rattle.node_endpoint.specs.Sites.{Site, ThreadCall, answer_at, node_then}

-- the record of the node, and the slot of the datagram that the last call sends
pub record SenderWhole : Type 0 where
  pub node : Node EndpointLocal
  pub sends : Option SlotRef

-- what a call leaves of it
abbrev pub sender_then : Site → SenderWhole → ThreadCall → SenderWhole
sender_then site whole call = record {
  node = node_then site whole.node call;
  sends = sends (answer_at site whole.node call);
}
