use Rattle.std.proofs.Common.{subst, arith}
use Rattle.node_endpoint.specs.EndpointState.{EndpointState, IsAnsweredAlways, WouldDeliver}
use Rattle.node_endpoint.proofs.Delivering.{answered_always, would_deliver_here}
use Rattle.node_endpoint.proofs.endpoint.Endpoint.would_deliver.Goals as goal

pub returns-clause-told : goal.returns-clause-told
returns-clause-told c =
    subst (λ (e : EndpointState). WouldDeliver e c.args.bytes.now c.would_deliver.result) c.self.view_is
    (would_deliver_here c.self.inside.core c.self.inside.extended c.args.bytes.now c.would_deliver.result
    c.would_deliver.ensures)

pub returns-clause-agrees : goal.returns-clause-agrees
returns-clause-agrees c =
    let core = c.self.inside.core in
    let extended = c.self.inside.extended in
    subst (λ (e : EndpointState). IsAnsweredAlways e c.args.bytes.now c.would_deliver.result) c.self.view_is
    (answered_always core extended c.args.bytes.now c.would_deliver.result (λ i. omega (arith, c.type_inv.bytes i))
    c.self.invariant
    (would_deliver_here core extended c.args.bytes.now c.would_deliver.result c.would_deliver.ensures))
