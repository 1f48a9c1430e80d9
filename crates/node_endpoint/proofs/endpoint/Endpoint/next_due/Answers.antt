use Rattle.std.proofs.Common.{subst}
use Rattle.node_endpoint.specs.EndpointState.{EndpointState, IsNextDue}
use Rattle.node_endpoint.proofs.Ticks.{next_due_here}
use Rattle.node_endpoint.proofs.endpoint.Endpoint.next_due.Goals as goal

pub returns : goal.returns
returns c =
    subst (λ (e : EndpointState). IsNextDue e c.next_due.result) c.self.view_is
    (next_due_here c.self.inside.core c.self.inside.extended c.next_due.result c.next_due.ensures)
