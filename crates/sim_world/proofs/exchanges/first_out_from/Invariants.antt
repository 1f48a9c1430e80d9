use Rattle.std.proofs.Common.{◌≤◌}
use Rattle.sim_world.specs.Exchanges.{leading_back}
use Rattle.sim_world.proofs.exchanges.first_out_from.Given as goal

abbrev pub invariant-loop-place : goal.invariant-loop-place
invariant-loop-place l = l.place ≤ leading_back l.list
