use Rattle.base_io.specs.Buffered.{GathersUpTo, outbox}
use Rattle.base_text.specs.LineTexts.{spell}
use Rattle.sim_drill.specs.Counting.{count_in}
use Rattle.sim_drill.specs.Summary.{count_lines}
use Rattle.sim_drill.proofs.SummaryText.{lines_from}
use Rattle.sim_drill.proofs.summary.write_counts.Given as goal

abbrev pub invariant-loop-counted : goal.invariant-loop-counted
invariant-loop-counted g l = record {
  said : GathersUpTo (outbox g.K.Sink.taken g.K.Sink.faults l.initial.sink)
      (outbox g.K.Sink.taken g.K.Sink.faults l.sink) (spell (count_lines (count_in l.counts)))
      (spell (lines_from (count_in l.counts) l.counted-index));
}
