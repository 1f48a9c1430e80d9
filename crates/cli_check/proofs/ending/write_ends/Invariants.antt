-- The lines of the nodes below this rank went in.
use Rattle.std.proofs.Common.{List, drop}
use Rattle.base_io.specs.Buffered.{GathersUpTo, outbox}
use Rattle.text_trace.specs.declared.trace.Trace.{Trace}
use Rattle.text_job.specs.declared.job.Job.{Job as JobState}
use Rattle.base_text.specs.LineTexts.{spell}
use Rattle.cli_check.specs.Merging.{AreReports}
use Rattle.cli_check.specs.StepLines.{ends_from}
use Rattle.cli_check.specs.TracesRun.{AreNodesAfter}
use Rattle.cli_check.proofs.ending.write_ends.Given as goal

abbrev pub invariant-loop-rank : goal.invariant-loop-rank
invariant-loop-rank g l = record {
  said : (job : JobState) (traces : List Trace) → AreNodesAfter job traces l.endpoints
      → AreReports job traces l.reports → GathersUpTo (outbox g.K.Sink.taken g.K.Sink.faults l.initial.sink)
      (outbox g.K.Sink.taken g.K.Sink.faults l.sink) (spell (ends_from job 0 traces))
      (spell (ends_from job l.rank (drop l.rank traces)));
}
