-- How many endpoints and exchanges a world has.
use Rattle.std.specs.Prelude.{ℕ, ◌≡◌, ◌*◌, List, [], Option, length, Some, slice_get}
use Rattle.wire_message.specs.Parameters.{Parameters}
use Rattle.part_handlers.specs.declared.table.Entry.{Entry}
use Rattle.spec_node.specs.Record.{opening_node}
use Rattle.node_rules.specs.EndpointLocal.{nothing_begun}
use Rattle.sim_world.specs.ExchangesState.{ExchangesState}
use Rattle.node_endpoint.specs.EndpointState.{EndpointState, EndpointStands, IsNodeOf}

-- an endpoint for each node, a place for each pair of nodes, and a number for each node
pub record IsWorldSized (settings : Parameters) (table : List (Option Entry)) (endpoints : List EndpointState)
    (exchanges : List ExchangesState) (most : List ℕ) : Type 0 where
  pub endpoints_are : length endpoints ≡ settings.nodes
  pub nodes : (node : ℕ) (endpoint : EndpointState) → slice_get endpoints node ≡ Some endpoint
      → IsNodeOf settings table node endpoint
  pub exchanges_are : length exchanges ≡ settings.nodes * settings.nodes
  pub most_are : length most ≡ settings.nodes

-- each node asked and ran nothing
abbrev pub AreOpening : Parameters → List (Option Entry) → List EndpointState → Type 0
AreOpening settings table endpoints =
    (node : ℕ) (endpoint : EndpointState) → slice_get endpoints node ≡ Some endpoint
    → IsNodeOf settings table node endpoint × EndpointStands endpoint (opening_node (nothing_begun settings))

-- no pair has exchanges
abbrev pub AreEmpty : List ExchangesState → Type 0
AreEmpty exchanges =
    (place : ℕ) (pair : ExchangesState) → slice_get exchanges place ≡ Some pair → pair.list ≡ []
