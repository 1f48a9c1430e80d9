use Rattle.std.proofs.Common.{◌≡◌, subst}
use Rattle.spec_node.specs.Under.{under}
use Rattle.node_rules.specs.EndpointLocal.{core_of}
use Rattle.node_endpoint.specs.EndpointState.{EndpointState, ForItsRecord}
use Rattle.node_endpoint.proofs.endpoint.Endpoint.cells.Goals as goal

pub returns : goal.returns
returns c =
    subst (λ (e : EndpointState). ForItsRecord e (λ node. c.cells.result.now ≡ node.local.core.cells)) c.self.view_is
    (λ node S. c.cells.ensures (under core_of node) S.core)
