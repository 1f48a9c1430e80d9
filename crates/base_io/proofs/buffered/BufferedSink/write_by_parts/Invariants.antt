use Rattle.std.proofs.Common.{length, take, ◌-◌, ◌≤◌}
use Rattle.base_io.specs.Buffered.{Gathers, outbox}
use Rattle.base_io.proofs.buffered.BufferedSink.write_by_parts.Given as goal

abbrev pub invariant-loop-taken : goal.invariant-loop-taken
invariant-loop-taken g l = record {
  bound : l.taken ≤ length l.bytes;
  bytes : Gathers (outbox g.K.Sink.taken g.K.Sink.faults l.initial.self) (outbox g.K.Sink.taken g.K.Sink.faults l.self)
      (take l.taken l.bytes);
}

abbrev pub decreases-loop-taken : goal.decreases-loop-taken
decreases-loop-taken g l = length l.bytes - l.taken
