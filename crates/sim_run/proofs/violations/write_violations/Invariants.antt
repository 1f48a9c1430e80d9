use Rattle.std.proofs.Common.{◌≤◌, length, map}
use Rattle.base_io.specs.Buffered.{GathersUpTo, outbox}
use Rattle.base_text.specs.LineTexts.{spell}
use Rattle.sim_run.specs.RunText.{violation_line}
use Rattle.sim_run.proofs.Newest.{left}
use Rattle.sim_run.proofs.violations.write_violations.Given as goal

abbrev pub invariant-loop-turn : goal.invariant-loop-turn
invariant-loop-turn g l = record {
  taken : length l.log.newest ≤ 64
      → GathersUpTo (outbox g.K.Sink.taken g.K.Sink.faults l.initial.sink)
      (outbox g.K.Sink.taken g.K.Sink.faults l.sink)
      (spell (map (violation_line l.node) l.log.newest))
      (spell (map (violation_line l.node) (left l.log.newest l.turn)));
}
