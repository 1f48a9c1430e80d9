-- None of those before is the datagram.
use Rattle.std.proofs.Common.{◌≡◌}
use Rattle.text_trace.proofs.Searching.{NoneBelow}
use Rattle.text_trace.proofs.sent.is_among.Given as goal

abbrev pub invariant-loop-one : goal.invariant-loop-one
invariant-loop-one l = NoneBelow (λ one. (one.to ≡ l.to) × (one.bytes ≡ l.bytes)) l.sent l.one-index
