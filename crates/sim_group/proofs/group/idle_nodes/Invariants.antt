use Rattle.std.proofs.Common.{◌≡◌, length}
use Rattle.sim_group.specs.GroupState.{AreAt}
use Rattle.sim_group.specs.Opening.{AreIdle}
use Rattle.sim_group.proofs.group.idle_nodes.Given as goal

abbrev pub invariant-loop-node : goal.invariant-loop-node
invariant-loop-node l = record {
  count : length l.nodes.items ≡ l.node;
  at : AreAt l.settings l.nodes.items;
  idle : AreIdle (record { nodes = l.settings.nodes; base = l.base; room = l.room }) l.nodes.items;
}
