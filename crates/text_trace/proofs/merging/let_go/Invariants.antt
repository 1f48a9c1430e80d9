use Rattle.std.proofs.Common.{take}
use Rattle.text_trace.specs.Noted.{Fit, Marks}
use Rattle.text_trace.proofs.merging.let_go.Given as goal

abbrev pub invariant-loop-i : goal.invariant-loop-i
invariant-loop-i g l = record {
  fit : Fit l.places l.marks;
  marks : (r : g.M.Machine.State) → g.M.Machine.stands l.machine r → Marks l.places l.initial.marks l.marks
      (take l.i (g.M.Machine.sent r));
}
