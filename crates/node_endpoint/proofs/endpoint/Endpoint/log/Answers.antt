use Rattle.std.proofs.Common.{◌≡◌, subst}
use Rattle.part_handlers.specs.LogState.{log_of}
use Rattle.spec_node.specs.Under.{under}
use Rattle.node_rules.specs.EndpointLocal.{core_of}
use Rattle.node_endpoint.specs.EndpointState.{EndpointState, ForItsRecord}
use Rattle.node_endpoint.proofs.endpoint.Endpoint.log.Goals as goal

pub returns : goal.returns
returns c =
    subst (λ (e : EndpointState). ForItsRecord e (λ node. c.log.result.now ≡ log_of node.local.core.violations))
    c.self.view_is
    (λ node S. c.log.ensures (under core_of node) S.core)
