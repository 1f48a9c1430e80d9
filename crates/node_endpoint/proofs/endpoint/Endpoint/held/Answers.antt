use Rattle.std.proofs.Common.{◌≡◌, ◌≤◌, subst}
use Rattle.spec_node.specs.Credits.{greatest_holding}
use Rattle.spec_node.specs.Held.{held_buffers}
use Rattle.spec_node.specs.Under.{under}
use Rattle.node_rules.specs.EndpointLocal.{core_of}
use Rattle.node_endpoint.specs.EndpointState.{EndpointState, ForItsRecord}
use Rattle.node_endpoint.proofs.endpoint.Endpoint.held.Goals as goal

pub returns-clause-is : goal.returns-clause-is
returns-clause-is c =
    subst (λ (e : EndpointState). ForItsRecord e (λ node.
    c.held.result ≡ held_buffers e.core.settings e.core.me node)) c.self.view_is
    (λ node S. c.held.ensures.is (under core_of node) S.core)

pub returns-clause-few : goal.returns-clause-few
returns-clause-few c =
    subst (λ (e : EndpointState). ForItsRecord e (λ node.
    c.held.result ≤ greatest_holding e.core.settings e.core.me)) c.self.view_is
    (λ node S. c.held.ensures.few (under core_of node) S.core)
