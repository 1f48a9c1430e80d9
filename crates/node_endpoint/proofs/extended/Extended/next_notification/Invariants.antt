use Rattle.std.proofs.Common.{◌≡◌, ◌-◌}
use Rattle.part_handlers.specs.Runs.{Meaning}
use Rattle.spec_node.specs.Record.{Node}
use Rattle.spec_node.specs.Step.{can_ask}
use Rattle.spec_node.specs.NodeStep.{site_of}
use Rattle.part_barrier.specs.Record.{notification_to}
use Rattle.node_rules.specs.EndpointRules.{notification_among}
use Rattle.node_rules.specs.EndpointLocal.{EndpointLocal}
use Rattle.node_endpoint.specs.EndpointState.{EndpointStands, job_here}
use Rattle.node_endpoint.specs.Parts.{endpoint_of}
use Rattle.node_endpoint.proofs.extended.Extended.next_notification.Given as goal

abbrev pub invariant-loop-to : goal.invariant-loop-to
invariant-loop-to l =
    (meaning : Meaning) (node : Node EndpointLocal) → EndpointStands (endpoint_of l.core l.self) node
    → notification_among (notification_to l.core.settings.nodes l.core.me node.local.barrier)
    (can_ask (site_of (job_here meaning (endpoint_of l.core l.self)) l.core.me) node) 0 l.core.settings.nodes
    ≡ notification_among (notification_to l.core.settings.nodes l.core.me node.local.barrier)
    (can_ask (site_of (job_here meaning (endpoint_of l.core l.self)) l.core.me) node) l.to
    (l.core.settings.nodes - l.to)
