use Rattle.node_vis.proofs.Fitting.{fitting, plan_of}
use Rattle.node_vis.proofs.plan.planned.Goals as goal

pub pieces-requires : goal.pieces-requires
pieces-requires c = (fitting c.args.settings.now c.args.way c.args.runs.now c.in_ok-judge.ensures).1

pub invariant_of-result : goal.invariant_of-result
invariant_of-result c =
    plan_of c.args.settings.now c.args.way c.args.to c.args.runs.now c.in-Ok.pieces.items c.in-Ok.ensures c.requires.there
    c.requires.pieces c.in_ok-judge.ensures
