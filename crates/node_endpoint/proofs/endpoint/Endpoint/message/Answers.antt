use Rattle.std.proofs.Common.{◌≡◌, subst}
use Rattle.std.specs.Prelude.{option_copied}
use Rattle.spec_node.specs.SlotMessages.{message_at}
use Rattle.spec_node.specs.Under.{under}
use Rattle.node_rules.specs.EndpointLocal.{core_of}
use Rattle.node_endpoint.specs.EndpointState.{EndpointState, ForItsRecord}
use Rattle.node_endpoint.proofs.endpoint.Endpoint.message.Goals as goal

pub returns : goal.returns
returns c =
    subst (λ (e : EndpointState). ForItsRecord e (λ node.
    option_copied c.message.result ≡ message_at e.core.settings e.core.me node c.args.at)) c.self.view_is
    (λ node S. c.message.ensures (under core_of node) S.core)
