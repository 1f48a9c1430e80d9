use Rattle.std.proofs.Common.{◌≡◌, vec_len}
use Rattle.sim_world.specs.Sizes.{AreEmpty}
use Rattle.sim_world.proofs.world.no_exchanges.Given as goal

abbrev pub invariant-loop : goal.invariant-loop
invariant-loop l = (vec_len l.exchanges ≡ l.counter) × AreEmpty l.exchanges.items
