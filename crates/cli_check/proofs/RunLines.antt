-- How far the lines of a run of traces went in, where not all of those of its steps did.
use Rattle.std.proofs.Common.{List, refl}
use Rattle.base_io.specs.Buffered.{Outbox, GathersPrefix}
use Rattle.text_trace.specs.declared.trace.Trace.{Trace}
use Rattle.text_job.specs.declared.job.Job.{Job as JobState}
use Rattle.base_text.specs.LineTexts.{spell}
use Rattle.sim_run.specs.declared.said.Said.TheVariants as said
use Rattle.sim_run.proofs.LinesWritten.{lines_said, no_lines_yet}
use Rattle.cli_check.specs.StepLines.{ends_from, run_lines, steps_from}

-- the sink failed at one of a step
pub fault_before_ends : (job : JobState) (traces : List Trace) (old new : Outbox)
    → GathersPrefix old new (spell (steps_from job 0 traces)) → GathersPrefix old new (spell (run_lines job traces))
fault_before_ends job traces old new prefix =
    lines_said old old new (run_lines job traces) (run_lines job traces) (steps_from job 0 traces)
    (ends_from job 0 traces) said.Fault (λ same. absurd (cc)) refl (no_lines_yet old (run_lines job traces)) prefix
