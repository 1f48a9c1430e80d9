-- Functions of a number that change at one place.
use Rattle.std.specs.Prelude.{ℕ, ◌==◌, if◌then◌else◌}

-- f, but x at that place
abbrev pub put : {X : Type 0} → (ℕ → X) → (place : ℕ) → X → ℕ → X
put f place x other = if other == place then x else f other
