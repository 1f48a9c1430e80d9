-- What is read in steps, where a reason against one stays.
use Rattle.std.specs.Prelude.{Result, Ok, Err}

-- what was read, read on; a reason against it stays
infixl 10 ◌>>=◌
abbrev pub ◌>>=◌ : {A B E : Type 0} → Result A E → (A → Result B E) → Result B E
(Ok value) >>= more = more value
(Err why) >>= more = Err why
