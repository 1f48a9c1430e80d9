use Rattle.std.proofs.Common.{◌≡◌, ℕ, ◌+◌}
use Rattle.std.specs.Prelude.{◌&&◌}
use Rattle.spec_node.specs.Record.{Node}
use Rattle.spec_node.specs.Step.{is_exhausted}
use Rattle.part_barrier.specs.Record.{owes}
use Rattle.node_rules.specs.BarrierCalls.{first_where}
use Rattle.node_rules.specs.EndpointLocal.{EndpointLocal}
use Rattle.node_endpoint.specs.EndpointState.{EndpointStands}
use Rattle.node_endpoint.specs.Parts.{endpoint_of}
use Rattle.node_endpoint.proofs.extended.Extended.first_exhausted.Given as goal

abbrev pub invariant-loop-node : goal.invariant-loop-node
invariant-loop-node l =
    (node : Node EndpointLocal) → EndpointStands (endpoint_of l.core l.self) node
    → (rest : ℕ) → l.node + rest ≡ l.core.settings.nodes
    → first_where (λ to. is_exhausted l.core.settings node to
    && owes l.core.settings.nodes l.core.me node.local.barrier to) 0 l.core.settings.nodes
    ≡ first_where (λ to. is_exhausted l.core.settings node to
    && owes l.core.settings.nodes l.core.me node.local.barrier to) l.node rest
