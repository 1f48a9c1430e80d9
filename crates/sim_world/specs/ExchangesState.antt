-- What the exchanges of a pair are, as a value.
use Rattle.std.specs.Prelude.{ℕ, List}
use Rattle.sim_world.specs.declared.exchanges.Exchange.{Exchange}

-- the exchanges, that of request 1 first, and for how many more there is room
pub record ExchangesState : Type 0 where
  pub list : List Exchange
  pub room : ℕ
