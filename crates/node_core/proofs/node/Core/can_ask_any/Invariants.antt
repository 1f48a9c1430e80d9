use Rattle.std.proofs.Common.{◌<◌, ℕ, false}
use Rattle.node_core.specs.Known.{CanAsk}
use Rattle.node_core.proofs.node.Core.can_ask_any.Given as goal

abbrev pub invariant-loop-to : goal.invariant-loop-to
invariant-loop-to l = (other : ℕ) → other < l.to → CanAsk l.self other false
