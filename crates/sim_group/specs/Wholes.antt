-- What a caller at a node of a group stands for, and what calls make of it.
use Rattle.std.specs.Prelude.{ℕ, ◌≡◌, List, [], ◌∷◌}
use Rattle.node_endpoint.specs.Sites.{Site, ThreadCall, node_then}
use Rattle.spec_network.specs.MostHeld.{most_then}
use Rattle.sim_world.specs.Wholes.{WorldWhole, event_of_call, records_then}
use Rattle.sim_world.specs.Following.{follows_then}
use Rattle.part_collective_area.specs.Area.{Area}
use Rattle.law_collectives.specs.Groups.{Group, GroupEvent, Other}

-- the group with its area, and the most buffers that each node held so far
pub record GroupWhole : Type 0 where
  pub area : Area
  pub group : Group
  pub most : ℕ → ℕ

-- its records, as the caller at a node of a world has them
abbrev pub world_of : GroupWhole → WorldWhole
world_of whole = record { records = whole.group.records; most = whole.most }

-- all that a call leaves: the nodes are as far as before with their collectives
abbrev pub group_then : Site → GroupWhole → ThreadCall → GroupWhole
group_then site whole call = record {
  area = whole.area;
  group = record whole.group { records = records_then site whole.group.records call };
  most = most_then site.settings (records_then site whole.group.records call) whole.most;
}

-- a call of a thread changes the record of its own node, as that record's own step does
pub follows_in : (at : Site) (whole : GroupWhole) (call : ThreadCall)
    → (group_then at whole call).group.records at.node ≡ node_then at (whole.group.records at.node) call
follows_in at whole call = follows_then at (world_of whole) call

-- calls of threads of the node, one after another, as events of the group that no collective makes
abbrev pub others_of : Site → List ThreadCall → List GroupEvent
others_of site [] = []
others_of site (call ∷ later) = Other (event_of_call site call) ∷ others_of site later
