use Rattle.std.proofs.Common.{◌≡◌, ◌-◌}
use Rattle.node_collectives.specs.Progress.{first_node, is_other, other_shape}
use Rattle.node_collectives.specs.CollectivesState.{progress_of}
use Rattle.node_collectives.proofs.collectives.Collectives.other_shape.Given as goal

abbrev pub invariant-loop-node : goal.invariant-loop-node
invariant-loop-node l =
    other_shape l.self.area (progress_of l.self) l.bytes
    ≡ first_node (is_other l.self.area (progress_of l.self) l.bytes) l.node (l.self.area.nodes - l.node)
