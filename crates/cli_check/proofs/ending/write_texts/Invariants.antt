-- The texts before this one went in.
use Rattle.std.proofs.Common.{drop}
use Rattle.base_io.specs.Buffered.{GathersUpTo, outbox}
use Rattle.cli_check.specs.Merging.{texts_of}
use Rattle.cli_check.proofs.ending.write_texts.Given as goal

abbrev pub invariant-loop-report : goal.invariant-loop-report
invariant-loop-report g l = record {
  said : GathersUpTo (outbox g.K.Sink.taken g.K.Sink.faults l.initial.sink)
      (outbox g.K.Sink.taken g.K.Sink.faults l.sink) (texts_of l.reports)
      (texts_of (drop l.report-index l.reports));
}
