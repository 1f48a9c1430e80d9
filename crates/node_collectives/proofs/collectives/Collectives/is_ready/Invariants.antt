use Rattle.std.proofs.Common.{◌≡◌, ◌-◌}
use Rattle.node_collectives.specs.Progress.{is_exchanged, is_ready, is_ready_from}
use Rattle.node_collectives.specs.CollectivesState.{progress_of}
use Rattle.node_collectives.proofs.collectives.Collectives.is_ready.Given as goal

abbrev pub invariant-loop-node : goal.invariant-loop-node
invariant-loop-node l =
    is_ready l.self.area l.self.me (progress_of l.self) l.bytes
    ≡ is_ready_from (is_exchanged l.self.area l.self.me (progress_of l.self) l.bytes) l.node
    (l.self.area.nodes - l.node)
