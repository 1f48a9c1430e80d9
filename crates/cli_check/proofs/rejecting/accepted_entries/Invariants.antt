-- The copies of the entries before this one.
use Rattle.std.proofs.Common.{◌≡◌, ℕ, take}
use Rattle.text_job.specs.declared.job.Job.{Job as JobState}
use Rattle.cli_check.specs.Rejected.{IsEndpointAt, accepted_entries}
use Rattle.cli_check.proofs.rejecting.accepted_entries.Given as goal

abbrev pub invariant-loop-entry : goal.invariant-loop-entry
invariant-loop-entry l = record {
  made : (job : JobState) (rank : ℕ) → IsEndpointAt job rank l.endpoint
      → l.accepted.items ≡ accepted_entries job rank (take l.entry-index l.entries);
}
