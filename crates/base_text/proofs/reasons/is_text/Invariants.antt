use Rattle.std.proofs.Common.{◌≡◌, drop, true}
use Rattle.base_text.specs.Reasons.{goes_on_as_text}
use Rattle.base_text.proofs.reasons.is_text.Given as goal

abbrev pub invariant-loop-b : goal.invariant-loop-b
invariant-loop-b l = goes_on_as_text l.begins (drop l.b-index l.bytes) ≡ goes_on_as_text true l.bytes
