-- What a world keeps, of the records of its nodes.
use Rattle.std.specs.Prelude.{ℕ, ◌≡◌, ◌+◌, ◌*◌, ◌<◌, ◌≤◌, List, length, Some, is_some, slice_get}
use Rattle.wire_message.specs.Parameters.{AreInRange}
use Rattle.spec_node.specs.Record.{Request, Run, element_at}
use Rattle.spec_node.specs.Executed.{run_of}
use Rattle.spec_node.specs.Held.{held_buffers}
use Rattle.node_core.specs.ClientRules.{content_refusal}
use Rattle.node_rules.specs.EndpointLocal.{IsEndpointKept}
use Rattle.spec_network.specs.Invariant.{WorldInvariant}
use Rattle.spec_node.specs.Credits.{greatest_holding}
use Rattle.node_rules.specs.EndpointRules.{Records}
use Rattle.node_endpoint.specs.EndpointState.{EndpointState, EndpointStands}
use Rattle.node_endpoint.specs.EndpointState.{IsNodeOf}
use Rattle.sim_world.specs.Sizes.{IsWorldSized}
use Rattle.sim_world.specs.WorldState.{WorldState}
use Rattle.sim_world.specs.declared.exchanges.Exchange.{Exchange}

-- ---- the requests of a pair

-- an exchange says the slot of the request, whether it ran, and whether it is back
pub record StandsForExchange (exchange : Exchange) (number : ℕ) (request : Request) (runs : List Run) : Type 0 where
  pub slot : exchange.slot ≡ request.slot
  pub ran : exchange.ran ≡ is_some (run_of number runs)
  pub back : exchange.back ≡ request.back

-- the exchanges of a pair are those of the requests that were accepted
pub record StandsForPair (exchanges : List Exchange) (requests : List Request) (runs : List Run) : Type 0 where
  pub count : length exchanges ≡ length requests
  pub each : (number : ℕ) (request : Request) → element_at requests number ≡ Some request
      → (exchange : Exchange) × (element_at exchanges number ≡ Some exchange)
      × StandsForExchange exchange number request runs

-- ---- a world

-- the world stands for these records, where each node holds at most so much, and that is at most the bound of
-- that node (`greatest_holding`)
pub record WorldStands (world : WorldState) (records : Records) (most : ℕ → ℕ) : Type 0 where
  pub range : AreInRange world.settings
  pub invariant_ : WorldInvariant
      world.settings (content_refusal world.settings world.table) (IsEndpointKept world.settings) records
  pub endpoints : (node : ℕ) → node < world.settings.nodes
      → (endpoint : EndpointState) × (slice_get world.endpoints node ≡ Some endpoint)
      × IsNodeOf world.settings world.table node endpoint × EndpointStands endpoint (records node)
  pub exchanges : (from to : ℕ) → from < world.settings.nodes → to < world.settings.nodes
      → (list : List Exchange) × (room : ℕ)
      × (slice_get world.exchanges (from * world.settings.nodes + to) ≡ Some (record { list = list; room = room }))
      × StandsForPair list ((records from).asked to) ((records to).ran from)
  pub most_is : (node : ℕ) → node < world.settings.nodes → slice_get world.most node ≡ Some (most node)
  pub held_le : (node : ℕ) → node < world.settings.nodes → held_buffers world.settings node (records node) ≤ most node
  pub most_few : (node : ℕ) → node < world.settings.nodes → most node ≤ greatest_holding world.settings node

-- some records for which the world stands
pub record IsFounded (world : WorldState) : Type 0 where
  pub records : Records
  pub most : ℕ → ℕ
  pub stands : WorldStands world records most

-- the world has its sizes, and stands for some records
pub record IsWholeWorld (world : WorldState) : Type 0 where
  pub sized : IsWorldSized world.settings world.table world.endpoints world.exchanges world.most
  pub founded : IsFounded world
