-- How many of the entries before this one got what is refused.
use Rattle.std.proofs.Common.{◌≡◌, ◌≤◌, ℕ, take}
use Rattle.text_job.specs.declared.job.Job.{Job as JobState}
use Rattle.cli_check.specs.Rejected.{IsEndpointAt, refused_turns}
use Rattle.cli_check.proofs.rejecting.refused_turns.Given as goal

abbrev pub invariant-loop-entry : goal.invariant-loop-entry
invariant-loop-entry l = record {
  count : (job : JobState) (rank : ℕ) → IsEndpointAt job rank l.endpoint
      → l.turns ≡ refused_turns job rank (take l.entry-index l.entries);
  low : l.turns ≤ l.entry-index;
}
