-- A call of a node that is there is an event of the world.
use Rattle.std.proofs.Common.{ℕ, ◌<◌}
use Rattle.wire_message.specs.Parameters.{Parameters}
use Rattle.spec_network.specs.World.{IsAmong}
use Rattle.node_rules.specs.Called.{Meant, Requests, Performs, event_at}

pub call_among : (settings : Parameters) (node thread : ℕ) (call : Meant) → node < settings.nodes
    → IsAmong settings (event_at node thread call)
call_among settings node thread (Requests to asking) low = low
call_among settings node thread (Performs call) low = low
