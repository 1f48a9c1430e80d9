-- The traces that were taken from the list.
use Rattle.std.proofs.Common.{◌≡◌, length}
use Rattle.text_job.specs.declared.job.Job.{Job as JobState}
use Rattle.cli_check.specs.Merging.{AreFirstRecorders}
use Rattle.cli_check.specs.Rejected.{accepted_traces}
use Rattle.cli_check.proofs.rejecting.accepted_traces.Given as goal

abbrev pub invariant-loop-trace : goal.invariant-loop-trace
invariant-loop-trace g l = record {
  made : (job : JobState) → AreFirstRecorders job l.recorders → l.accepted.items ≡ accepted_traces job l.yielded;
  count : length l.accepted.items ≡ length l.yielded;
}
