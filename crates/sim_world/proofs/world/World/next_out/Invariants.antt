use Rattle.std.proofs.Common.{ℕ, ◌<◌, ◌≤◌}
use Rattle.sim_world.specs.Events.{ForItsRecords}
use Rattle.sim_world.specs.Settling.{AreBack}
use Rattle.sim_world.proofs.world.World.next_out.Given as goal

abbrev pub invariant-loop-other : goal.invariant-loop-other
invariant-loop-other l = record {
  first : l.to ≤ l.other;
  back : ForItsRecords l.self (λ records most. (k : ℕ) → l.to ≤ k → k < l.other → AreBack ((records l.from).asked k));
}
