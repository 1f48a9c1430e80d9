use Rattle.std.proofs.Common.{◌≡◌, ◌-◌}
use Rattle.node_collectives.specs.Progress.{first_node, has_exhausted, exhausted_node}
use Rattle.node_collectives.specs.CollectivesState.{progress_of}
use Rattle.node_collectives.proofs.collectives.Collectives.exhausted_node.Given as goal

abbrev pub invariant-loop-node : goal.invariant-loop-node
invariant-loop-node l =
    exhausted_node l.self.area l.self.me (progress_of l.self)
    ≡ first_node (has_exhausted l.self.me (progress_of l.self)) l.node (l.self.area.nodes - l.node)
