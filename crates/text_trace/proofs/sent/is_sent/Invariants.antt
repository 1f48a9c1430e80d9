-- None of the nodes before sent it.
use Rattle.text_trace.specs.Sending.{IsSentAmong}
use Rattle.text_trace.proofs.Searching.{NoneBelow}
use Rattle.text_trace.proofs.sent.is_sent.Given as goal

abbrev pub invariant-loop-replay : goal.invariant-loop-replay
invariant-loop-replay l = NoneBelow (λ replay. IsSentAmong replay.sent.items l.to l.bytes) l.replays l.replay-index
