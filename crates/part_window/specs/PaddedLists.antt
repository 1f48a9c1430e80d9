-- A list of which the end is blank, and is not kept.
use Rattle.std.specs.Prelude.{ℕ, ◌-◌, List, ◌++◌, length}
use Rattle.std.proofs.Math.ListN.{replicate}

-- the items, and blanks behind them, up to `len`
abbrev pub with_padding : {A : Type 0} → List A → A → ℕ → List A
with_padding items blank len = items ++ replicate (len - length items) blank
