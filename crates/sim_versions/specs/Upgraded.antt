-- The same job with another version of the datagram.
use Rattle.std.specs.Prelude.{◌≡◌, ◌≤◌, ℕ, true}
use Rattle.wire_message.specs.Content.{is_version}
use Rattle.wire_message.specs.Notifications.{most_nodes}
use Rattle.text_job.specs.declared.job.Job.{Job as JobState}
use Rattle.text_job.specs.JobText.{IsJob}
use Rattle.sim_run.specs.RunText.{is_violated, run_lines}

-- the job with datagrams of this version
abbrev pub in_version : JobState → (version : ℕ) → JobState
in_version job version = record job { settings = record job.settings { version = version } }

-- the runs of two jobs have the same lines, and a node noted a violation in both or in neither
pub record IsSameRun (job other : JobState) : Type 0 where
  pub lines : run_lines other ≡ run_lines job
  pub violated : is_violated other ≡ is_violated job

-- the run of a job with datagrams of another version, which has so many nodes, is the same
abbrev pub RunsAlike : Type 0
RunsAlike = (job : JobState) (version : ℕ) → IsJob job → is_version version ≡ true
    → job.settings.nodes ≤ most_nodes version → IsSameRun job (in_version job version)
