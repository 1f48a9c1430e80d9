-- All that the entries before got was sent.
use Rattle.text_trace.specs.Sending.{IsUnsent}
use Rattle.text_trace.proofs.Searching.{NoneBelow}
use Rattle.text_trace.proofs.sent.first_unsent.Given as goal

abbrev pub invariant-loop-place : goal.invariant-loop-place
invariant-loop-place l = NoneBelow (IsUnsent l.replays l.to) l.entries l.place
