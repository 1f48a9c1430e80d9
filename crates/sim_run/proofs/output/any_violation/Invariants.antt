use Rattle.std.proofs.Common.{◌≡◌, ℕ, ◌-◌}
use Rattle.node_rules.specs.EndpointRules.{Records}
use Rattle.sim_world.specs.Stands.{WorldStands}
use Rattle.sim_run.specs.RunText.{any_violation}
use Rattle.sim_run.proofs.output.any_violation.Given as goal

abbrev pub invariant-loop-node : goal.invariant-loop-node
invariant-loop-node l = record {
  so_far : (w : Records) (most : ℕ → ℕ) → WorldStands l.world w most
      → any_violation w 0 l.world.settings.nodes ≡ any_violation w l.node (l.world.settings.nodes - l.node);
}
