use Rattle.node_collectives.proofs.Writing.{Writing}
use Rattle.node_collectives.proofs.collectives.Collectives.write_result.Given as goal

abbrev pub invariant-loop-index : goal.invariant-loop-index
invariant-loop-index g l =
    Writing g.K.Caller l.self l.fn.caller (record { thread = l.thread; dest = l.dest }) l.index l.caller
