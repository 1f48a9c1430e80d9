use Rattle.std.proofs.Common.{ℕ, ◌<◌}
use Rattle.text_trace.specs.Going.{IsLeftAt}
use Rattle.text_trace.proofs.merging.first_left.Given as goal

abbrev pub invariant-loop-node : goal.invariant-loop-node
invariant-loop-node l = (k : ℕ) → k < l.node → IsLeftAt l.traces l.prefix k → ⊥
