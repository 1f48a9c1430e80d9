-- A fact where there is a value.
use Rattle.std.proofs.Common.{Result, Ok, Err}
use Rattle.std.specs.Result.{OnOk}

pub on_ok : {A E : Type 0} → (result : Result A E) (P Q : Type 0) → (P → Q) → OnOk result P → OnOk result Q
on_ok (Ok x) P Q go h = go h
on_ok (Err e) P Q go h = h
