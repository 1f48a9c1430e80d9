use Rattle.node_vis.proofs.Trying.{Tried}
use Rattle.node_vis.proofs.plan.Plan.begin_pieces.Given as goal

abbrev pub invariant-loop-place : goal.invariant-loop-place
invariant-loop-place g l = Tried g.K.Caller l.fn.caller l.caller l.self l.thread l.from l.place
