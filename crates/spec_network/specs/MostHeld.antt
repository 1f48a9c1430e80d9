-- How many message buffers each node held at most.
use Rattle.std.specs.Prelude.{ℕ, max, List, [], ◌∷◌}
use Rattle.wire_message.specs.Parameters.{Parameters}
use Rattle.spec_node.specs.Held.{held_buffers}
use Rattle.spec_node.specs.NodeStep.{Job}
use Rattle.spec_network.specs.World.{World, EventAt, world_after}

-- the greatest number held by each node up to now, after one more event
abbrev pub most_then : {Local : Type 0} → Parameters → World Local → (ℕ → ℕ) → ℕ → ℕ
most_then settings world most node = max (most node) (held_buffers settings node (world node))

-- the same after these events, where it was this before them
abbrev pub most_after : {Local Call Told : Type 0}
    → Job Local Call Told → List (EventAt Call) → World Local → (ℕ → ℕ) → ℕ → ℕ
most_after job [] world most = most
most_after job (timed ∷ rest) world most =
    let after = world_after job world timed in
    most_after job rest after (most_then job.settings after most)
