-- What a caller at a node of a world stands for, and what calls make of it.
use Rattle.std.specs.Prelude.{ℕ, List, [], ◌∷◌}
use Rattle.node_rules.specs.EndpointRules.{OtherCall, Records, timed_event}
use Rattle.node_rules.specs.Called.{event_at}
use Rattle.spec_network.specs.World.{EventAt, world_after}
use Rattle.spec_network.specs.MostHeld.{most_then}
use Rattle.node_endpoint.specs.Sites.{Site, ThreadCall, job_at}

-- the records of all nodes, and the most buffers that each node held so far
pub record WorldWhole : Type 0 where
  pub records : Records
  pub most : ℕ → ℕ

-- a call of a thread, as an event of the world
abbrev pub event_of_call : Site → ThreadCall → EventAt OtherCall
event_of_call site call = timed_event site.now (event_at site.node call.thread call.call)

-- the records that it leaves
abbrev pub records_then : Site → Records → ThreadCall → Records
records_then site records call = world_after (job_at site) records (event_of_call site call)

-- all that it leaves
abbrev pub whole_then : Site → WorldWhole → ThreadCall → WorldWhole
whole_then site whole call = record {
  records = records_then site whole.records call;
  most = most_then site.settings (records_then site whole.records call) whole.most;
}

-- calls of threads of the node, one after another, as events of the world
abbrev pub events_of : Site → List ThreadCall → List (EventAt OtherCall)
events_of site [] = []
events_of site (call ∷ later) = event_of_call site call ∷ events_of site later
