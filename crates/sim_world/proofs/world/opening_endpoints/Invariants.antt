use Rattle.std.proofs.Common.{◌≡◌, vec_len}
use Rattle.sim_world.specs.Sizes.{AreOpening}
use Rattle.sim_world.proofs.world.opening_endpoints.Given as goal

abbrev pub invariant-loop-node : goal.invariant-loop-node
invariant-loop-node l = (vec_len l.endpoints ≡ l.node) × AreOpening l.settings l.table l.endpoints.items
