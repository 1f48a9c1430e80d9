-- What a world of endpoints is, as a value.
use Rattle.std.specs.Prelude.{ℕ, List, Option}
use Rattle.wire_message.specs.Parameters.{Parameters}
use Rattle.part_handlers.specs.declared.table.Entry.{Entry}
use Rattle.sim_world.specs.ExchangesState.{ExchangesState}
use Rattle.node_endpoint.specs.EndpointState.{EndpointState}

pub record WorldState : Type 0 where
  pub settings : Parameters
  pub table : List (Option Entry)
  pub endpoints : List EndpointState
  pub exchanges : List ExchangesState  -- that of the pair (i, j) at place i * n + j
  pub most : List ℕ  -- the greatest `held` of each endpoint after any event so far
