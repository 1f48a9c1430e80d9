use Rattle.node_collectives.proofs.Stepping.{Going}
use Rattle.node_collectives.proofs.collectives.Collectives.step.Given as goal

abbrev pub invariant-loop-to : goal.invariant-loop-to
invariant-loop-to g l = Going g.K.Caller l.thread l.fn.self l.fn.caller l.to l.self l.caller
