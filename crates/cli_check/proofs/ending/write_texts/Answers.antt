-- The text of one node more, and of all.
use Rattle.std.proofs.Common.{ap}
use Rattle.std.proofs.lemmas.List.{drop_all}
use Rattle.base_io.specs.Buffered.{outbox}
use Rattle.base_io.specs.declared.writing.Wrote.TheVariants as wrote
use Rattle.base_io.proofs.Outboxes.{all_gathered, nothing_yet}
use Rattle.cli_check.specs.Merging.{texts_of}
use Rattle.cli_check.proofs.Ends.{text_said}
use Rattle.cli_check.proofs.ending.write_texts.Goals as goal

pub loop-report-init : goal.loop-report-init
loop-report-init g c = record { said = nothing_yet _ _ }

pub returns-in-Fault : goal.returns-in-Fault
returns-in-Fault g c =
    text_said c.args.reports.now c.loop-report.report-index c.report-item.result c.taken.result.now
    (outbox g.K.Sink.taken g.K.Sink.faults c.args.sink.now) (outbox g.K.Sink.taken g.K.Sink.faults c.loop-report.sink)
    (outbox g.K.Sink.taken g.K.Sink.faults c.write_all.new.self) wrote.Fault c.loop-report-test.true c.report-item.is
    c.taken.ensures c.loop-report.invariant.said c.in-Fault.ensures

pub loop-report-preserved : goal.loop-report-preserved
loop-report-preserved g c = record {
  said = text_said c.args.reports.now c.loop-report.report-index c.report-item.result c.taken.result.now
      (outbox g.K.Sink.taken g.K.Sink.faults c.args.sink.now)
      (outbox g.K.Sink.taken g.K.Sink.faults c.loop-report.sink)
      (outbox g.K.Sink.taken g.K.Sink.faults c.write_all.new.self) wrote.Done c.loop-report-test.true c.report-item.is
      c.taken.ensures c.loop-report.invariant.said c.in_default.ensures;
}

pub returns : goal.returns
returns g c =
    all_gathered _ _ _ _
    (ap texts_of (drop_all c.loop-report.report-index c.args.reports.now c.loop-report-test.false))
    c.loop-report.invariant.said
