-- The group of a world, as the code keeps it.
use Rattle.std.specs.Prelude.{ℕ, ◌≡◌, List, length, Some, slice_get}
use Rattle.wire_message.specs.Parameters.{Parameters}
use Rattle.sim_world.specs.WorldState.{WorldState}
use Rattle.node_collectives.specs.CollectivesState.{CollectivesState}
use Rattle.sim_group.specs.declared.world_nodes.WorldNodes.{WorldNodes}

-- the world, and how far each node is with its collectives
pub record GroupState : Type 0 where
  pub world : WorldState
  pub nodes : List CollectivesState

-- each of them is at its place, of a job with these settings
abbrev pub AreAt : Parameters → List CollectivesState → Type 0
AreAt settings nodes =
    (node : ℕ) (one : CollectivesState) → slice_get nodes node ≡ Some one
    → (one.settings ≡ settings) × (one.me ≡ node)

-- there is one for each node of the world
pub record IsGroup (world : WorldState) (nodes : List CollectivesState) : Type 0 where
  pub count : length nodes ≡ world.settings.nodes
  pub at : AreAt world.settings nodes

-- the group that nodes of a world are
abbrev pub group_in : WorldNodes → GroupState
group_in nodes = record { world = nodes.world; nodes = nodes.collectives.items }
