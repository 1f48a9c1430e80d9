use Rattle.std.proofs.Common.{refl}
use Rattle.spec_node.specs.Step.{can_ask}
use Rattle.spec_node.specs.NodeStep.{site_of}
use Rattle.spec_node.specs.Under.{under}
use Rattle.node_core.specs.ClientRules.{rules}
use Rattle.node_rules.specs.EndpointLocal.{core_of}
use Rattle.node_endpoint.specs.EndpointState.{job_here}
use Rattle.node_endpoint.specs.Parts.{endpoint_of}
use Rattle.node_endpoint.proofs.extended.Extended.next_chunk.Goals as goal

pub returns-clause-next : goal.returns-clause-next
returns-clause-next c meaning node S =
    let core = c.args.core.now in
    c.next.ensures.next (can_ask (site_of (job_here meaning (endpoint_of core c.args.self.now)) core.me) node)
    (record {
      behaviour = rules core.settings core.table meaning;
      node = under core_of node;
      stands = S.core;
      each = λ to. refl;
    }) node.local.operations S.transfers
