use Rattle.std.proofs.Common.{take}
use Rattle.text_trace.specs.Noted.{AreFound, ArePlaces}
use Rattle.text_trace.proofs.wanted.places_of.Given as goal

abbrev pub invariant-loop-i : goal.invariant-loop-i
invariant-loop-i l = record {
  found : AreFound l.places (take l.i l.entries);
  places : ArePlaces l.places l.entries;
}
