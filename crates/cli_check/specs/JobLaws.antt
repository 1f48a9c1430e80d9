-- What holds of every run of a job whose traces may be checked, beside what `IsWorldRun` of `law_traces` has.
-- Origin: this project's profile.
use Rattle.text_job.specs.JobText.{IsJob}
use Rattle.text_job.specs.declared.job.Job.{Job as JobState}
use Rattle.text_script.specs.Bodies.{script_meaning}
use Rattle.text_script.specs.Registration.{handlers_of, registry_of}
use Rattle.law_vis.specs.StridedLaws.{StridedHolds}

-- The law of plans, in every run with the job's settings and handlers: so in the run that traces are (`RunOfTraces`)
abbrev pub PlansHold : Type 0
PlansHold =
    (job : JobState) → IsJob job
    → StridedHolds job.settings (registry_of (handlers_of job)).table (script_meaning (handlers_of job))
