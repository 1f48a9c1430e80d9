-- No node before this one noted a violation.
use Rattle.std.proofs.Common.{◌≡◌, List, drop}
use Rattle.text_trace.specs.declared.trace.Trace.{Trace}
use Rattle.text_job.specs.declared.job.Job.{Job as JobState}
use Rattle.cli_check.specs.StepLines.{is_violated_from}
use Rattle.cli_check.specs.TracesRun.{AreNodesAfter}
use Rattle.cli_check.proofs.ending.any_violation.Given as goal

abbrev pub invariant-loop-endpoint : goal.invariant-loop-endpoint
invariant-loop-endpoint l = record {
  so_far : (job : JobState) (traces : List Trace) → AreNodesAfter job traces l.endpoints
      → is_violated_from job 0 traces ≡ is_violated_from job l.endpoint-index (drop l.endpoint-index traces);
}
