use Rattle.std.proofs.Common.{◌≡◌, subst}
use Rattle.spec_node.specs.SlotMessages.{number_in_slot}
use Rattle.spec_node.specs.Under.{under}
use Rattle.node_rules.specs.EndpointLocal.{core_of}
use Rattle.node_endpoint.specs.EndpointState.{EndpointState, ForItsRecord}
use Rattle.node_endpoint.proofs.endpoint.Endpoint.number.Goals as goal

pub returns : goal.returns
returns c =
    subst (λ (e : EndpointState). ForItsRecord e (λ node.
    c.number.result ≡ number_in_slot e.core.settings e.core.me node c.args.at)) c.self.view_is
    (λ node S. c.number.ensures (under core_of node) S.core)
