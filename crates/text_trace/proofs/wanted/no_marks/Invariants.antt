use Rattle.std.proofs.Common.{◌≡◌, length}
use Rattle.text_trace.specs.Noted.{AreUnmarked}
use Rattle.text_trace.proofs.wanted.no_marks.Given as goal

abbrev pub invariant-loop-trace : goal.invariant-loop-trace
invariant-loop-trace l = record {
  size : length l.marks.items ≡ l.trace-index;
  each : AreUnmarked l.marks.items l.traces;
}
