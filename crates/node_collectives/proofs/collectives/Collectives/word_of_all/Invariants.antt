use Rattle.std.proofs.Common.{◌≡◌, ◌-◌}
use Rattle.std.specs.Prelude.{fold}
use Rattle.part_collective_area.specs.Results.{combination, together_at, word_at_place}
use Rattle.node_collectives.specs.Progress.{data_of_all}
use Rattle.node_collectives.specs.CollectivesState.{progress_of}
use Rattle.node_collectives.proofs.collectives.Collectives.word_of_all.Given as goal

abbrev pub invariant-loop-node : goal.invariant-loop-node
invariant-loop-node l =
    together_at (combination l.self.shape.kind)
    (data_of_all l.self.area (progress_of l.self) l.bytes 0 l.self.area.nodes) l.place
    ≡ fold (λ word bytes. combination l.self.shape.kind word (word_at_place l.place bytes)) l.all
    (data_of_all l.self.area (progress_of l.self) l.bytes l.node (l.self.area.nodes - l.node))
