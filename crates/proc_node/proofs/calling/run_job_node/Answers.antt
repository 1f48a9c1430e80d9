use Rattle.std.proofs.Common.{ap, ◌∙◌}
use denote.Param.Send.{sendable}
use Rattle.proc_node.specs.NodeEnds.{unmade}
use Rattle.proc_node.specs.NodeLeaves.{post_of}
use Rattle.proc_node.proofs.Crossing.{sieved_send}
use Rattle.proc_node.proofs.Ending.{ends_node, ends_unmade}
use Rattle.proc_node.proofs.calling.run_job_node.Goals as goal

pub returns-in-Ok : goal.returns-in-Ok
returns-in-Ok g c =
    ends_node g.L.Link g.C.Clock g.K.Sink (post_of c.args.job.now c.args.address.rank c.args.address.port)
    c.args.devices.link c.args.devices.clock c.args.devices.sink c.in-Ok.node c.run_node.result c.ended_node.result
    c.in-Ok.ensures c.run_node.ensures c.ended_node.ensures

pub returns-in-Err : goal.returns-in-Err
returns-in-Err g c =
    ends_unmade g.L.Link g.C.Clock g.K.Sink (post_of c.args.job.now c.args.address.rank c.args.address.port)
    c.args.devices.link c.args.devices.clock c.args.devices.sink c.unmade.result
    (c.unmade.ensures
    ∙ ap (λ (p : g.row.L.Denot × g.row.C.Denot). unmade p.0 p.1 c.args.devices.sink) c.in-Err.ensures)

pub run_node-requires-send-L : goal.run_node-requires-send-L
run_node-requires-send-L g c κs within = search (sendable, sieved_send) depth 30
