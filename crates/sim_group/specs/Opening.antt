-- Nodes that have started no collective.
use Rattle.std.specs.Prelude.{ℕ, ◌≡◌, List, Some, slice_get}
use Rattle.part_collective_area.specs.Area.{Area}
use Rattle.node_collectives.specs.Progress.{idle}
use Rattle.node_collectives.specs.CollectivesState.{CollectivesState, progress_of}

-- each has this area, and has started nothing
abbrev pub AreIdle : Area → List CollectivesState → Type 0
AreIdle area nodes =
    (node : ℕ) (one : CollectivesState) → slice_get nodes node ≡ Some one
    → (one.area ≡ area) × (idle ≡ progress_of one)
