use Rattle.sim_drill.specs.Draws.{behind_round, round_from}
use Rattle.sim_drill.proofs.rounds.draw_round.Goals as goal

pub returns-clause-draws : goal.returns-clause-draws
unfolding behind_round
returns-clause-draws c = cc

pub returns-clause-round : goal.returns-clause-round
unfolding round_from
returns-clause-round c = cc
