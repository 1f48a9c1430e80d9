use Rattle.std.proofs.Common.{ℕ, ◌-◌}
use Rattle.base_io.specs.Buffered.{GathersUpTo, outbox}
use Rattle.node_rules.specs.EndpointRules.{Records}
use Rattle.sim_world.specs.Stands.{WorldStands}
use Rattle.base_text.specs.LineTexts.{spell}
use Rattle.sim_run.specs.RunText.{node_lines}
use Rattle.sim_run.proofs.output.write_nodes.Given as goal

abbrev pub invariant-loop-node : goal.invariant-loop-node
invariant-loop-node g l = record {
  said : (w : Records) (most : ℕ → ℕ) → WorldStands l.world w most
      → GathersUpTo (outbox g.K.Sink.taken g.K.Sink.faults l.initial.sink)
      (outbox g.K.Sink.taken g.K.Sink.faults l.sink)
      (spell (node_lines l.world.settings w most 0 l.world.settings.nodes))
      (spell (node_lines l.world.settings w most l.node (l.world.settings.nodes - l.node)));
}
