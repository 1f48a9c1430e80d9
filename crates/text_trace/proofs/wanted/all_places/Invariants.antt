use Rattle.std.proofs.Common.{◌≡◌, length}
use Rattle.text_trace.specs.Noted.{HavePlaces}
use Rattle.text_trace.proofs.wanted.all_places.Given as goal

abbrev pub invariant-loop-trace : goal.invariant-loop-trace
invariant-loop-trace l = record {
  size : length l.places.items ≡ l.trace-index;
  each : HavePlaces l.places.items l.traces;
}
