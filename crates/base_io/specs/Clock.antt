-- What the clock with one value is.
use Rattle.std.specs.Prelude.{ℕ}

-- the value that it always says, and how often it was asked
pub record FixedState : Type 0 where
  pub value : ℕ
  pub asked : ℕ
