-- Those before this place were kept.
use Rattle.std.proofs.Common.{◌≡◌, ◌++◌, take}
use Rattle.text_trace.specs.Sending.{numbered_sends}
use Rattle.text_trace.proofs.sent.keep_sent.Given as goal

abbrev pub invariant-loop-i : goal.invariant-loop-i
invariant-loop-i g l = (state : g.M.Machine.State) → g.M.Machine.stands l.machine state
    → l.sent.items ≡ l.initial.sent.items ++ numbered_sends l.entry (take l.i (g.M.Machine.sent state))
