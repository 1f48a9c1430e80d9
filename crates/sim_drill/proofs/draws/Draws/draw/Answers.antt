use Rattle.std.proofs.Common.{refl}
use Rattle.sim_drill.specs.Draws.{drawn}
use Rattle.sim_drill.proofs.draws.Draws.draw.Goals as goal

pub returns-clause-drawn : goal.returns-clause-drawn
unfolding drawn
returns-clause-drawn c = refl
