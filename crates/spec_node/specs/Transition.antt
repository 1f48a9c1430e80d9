-- An event at its time, with its answer.
use Rattle.std.specs.Prelude.{ℕ}

pub record Transition (Event Answer : Type 0) : Type 0 where
  pub now : ℕ
  pub event : Event
  pub answer : Answer
