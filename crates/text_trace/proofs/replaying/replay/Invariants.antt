-- The turns before this entry were taken.
use Rattle.std.proofs.Common.{◌≡◌, take}
use Rattle.base_turns.specs.Replay.{StandsFor, steps_of}
use Rattle.text_trace.specs.Sending.{sent_from}
use Rattle.text_trace.proofs.replaying.replay.Given as goal

abbrev pub invariant-loop-turns : goal.invariant-loop-turns
invariant-loop-turns g l = record {
  stands : StandsFor g.M.Machine l.initial.machine (take l.turns l.entries) l.machine;
  threads : g.M.Machine.thread_count l.machine ≡ g.M.Machine.thread_count l.initial.machine;
  sent : (state : g.M.Machine.State) → g.M.Machine.stands l.initial.machine state
      → l.sent.items ≡ sent_from (steps_of g.M.Machine) state 1 (take l.turns l.entries);
}
