use Rattle.text_trace.proofs.Asking.{got_noted}
use Rattle.text_trace.proofs.merging.may_go_next.Goals as goal

pub may_go-requires-clause-marked : goal.may_go-requires-clause-marked
may_go-requires-clause-marked g c is = got_noted c.args.places.now c.args.marks.now c.args.traces.now c.args.node
    _ c.index-traces-node.result c.as_slice.result.now c.as_slice.ensures c.requires.marked is
