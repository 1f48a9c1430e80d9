use Rattle.node_endpoint.proofs.Opening.{opens_whole}
use Rattle.node_endpoint.proofs.endpoint.Endpoint.with_segment.Goals as goal

pub invariant_of-result : goal.invariant_of-result
invariant_of-result c =
    let core = c.in_ok-core.ensures in
    let extended = c.in_ok-extended.ensures in
    opens_whole c.in_ok-core.core c.in_ok-extended.extended c.args.settings.now c.args.me c.requires.me
    core.settings core.me_is core.segment core.stands extended.nodes extended.me_is extended.transfers
    extended.room_nodes extended.room extended.regions extended.registers extended.barrier extended.barrier_nodes
    extended.range
