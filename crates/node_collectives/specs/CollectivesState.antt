-- The collectives of a node, as the code keeps them.
use Rattle.std.specs.Prelude.{ℕ, ◌≡◌, ◌+◌, ◌<◌, ◌≤◌, ◌%◌, ◌^◌, Bool, true, false, List, get_or, length, replicate}
use Rattle.wire_message.specs.Parameters.{Parameters}
use Rattle.part_collective_area.specs.Area.{Area, IsArea}
use Rattle.part_collective_area.specs.Shapes.{is_reduction}
use Rattle.part_collective_area.specs.declared.shape.Shape.{Shape}
use Rattle.node_collectives.specs.Progress.{Progress, idle}

-- the job's settings, the node, the area in each segment, and how far the node is: `sent` and `exhausted` by node
pub record CollectivesState : Type 0 where
  pub settings : Parameters
  pub me : ℕ
  pub area : Area
  pub started : ℕ
  pub ended : ℕ
  pub shape : Shape
  pub sent : List Bool
  pub exhausted : List Bool

-- a node is among those that are marked
abbrev pub has : List Bool → (node : ℕ) → Bool
has marks node = get_or marks node false

-- how far the node is
abbrev pub progress_of : CollectivesState → Progress
progress_of it = record {
  started = it.started;
  ended = it.ended;
  shape = it.shape;
  sent = has it.sent;
  exhausted = has it.exhausted;
}

-- the shape is within the limits of the area
pub record IsWithin (area : Area) (shape : Shape) : Type 0 where
  pub root : shape.root < area.nodes
  pub few : shape.len ≤ area.room
  pub words : is_reduction shape.kind ≡ true → shape.len % 8 ≡ 0

-- what holds of it: the area lies in the segments, at most one phase is open, and its shape is within the limits
pub record Stands (it : CollectivesState) : Type 0 where
  pub there : it.me < it.settings.nodes
  pub nodes : it.area.nodes ≡ it.settings.nodes
  pub few_nodes : it.settings.nodes ≤ 256
  pub small : it.settings.segment ≤ 2 ^ 40
  pub area_good : IsArea it.settings.segment it.area
  pub ended : it.ended ≤ it.started
  pub started : it.started ≤ it.ended + 1
  pub count : it.started < 2 ^ 64
  pub shape_good : IsWithin it.area it.shape
  pub sent_long : length it.sent ≡ 256
  pub exhausted_long : length it.exhausted ≡ 256

-- it is of the same node, with the same area
pub record IsSameNode (old new : CollectivesState) : Type 0 where
  pub settings_are : new.settings ≡ old.settings
  pub me_is : new.me ≡ old.me
  pub area_is : new.area ≡ old.area

-- no node is marked
abbrev pub no_nodes : List Bool
no_nodes = replicate 256 false

-- it has started nothing
pub record IsFresh (settings : Parameters) (me base room : ℕ) (it : CollectivesState) : Type 0 where
  pub settings_are : it.settings ≡ settings
  pub me_is : it.me ≡ me
  pub area_is : it.area ≡ record { nodes = settings.nodes; base = base; room = room }
  pub started : it.started ≡ 0
  pub ended : it.ended ≡ 0
  pub shape : it.shape ≡ idle.shape
  pub sent : it.sent ≡ no_nodes
  pub exhausted : it.exhausted ≡ no_nodes
