use Rattle.sim_drill.proofs.Drawn.{next_by}
use Rattle.sim_drill.proofs.draws.following.Goals as goal

pub returns : goal.returns
returns c = next_by c.args.number
