use Rattle.std.proofs.Common.{◌∙◌, sym, ap, subst, Result}
use Rattle.text_job.specs.JobReading.{BadLine, start, alone, of_prefix, read}
use Rattle.text_job.specs.Reading.{FailsAt}
use Rattle.text_job.specs.declared.job.Job.{Job}
use Rattle.text_job.proofs.JobRuns.{too_long, job_reads, prefix_fails, is_alone, not_alone}
use Rattle.text_job.proofs.reading.job_at.Goals as goal

pub returns-then-bytes-gt-MAX_JOB_BYTES : goal.returns-then-bytes-gt-MAX_JOB_BYTES
returns-then-bytes-gt-MAX_JOB_BYTES c = too_long c.args.bytes.now c.if-bytes-gt-MAX_JOB_BYTES.true

pub returns-in-Err : goal.returns-in-Err
returns-in-Err c =
    subst (λ (r : Result Job BadLine). FailsAt c.in-Err.fault r)
    (sym (job_reads c.args.bytes.now c.if-bytes-gt-MAX_JOB_BYTES.false))
    (prefix_fails c.in-Err.fault alone (read start 1 c.args.bytes.now) c.in-Err.ensures)

pub returns-then-not-is_empty : goal.returns-then-not-is_empty
returns-then-not-is_empty c =
    job_reads c.args.bytes.now c.if-bytes-gt-MAX_JOB_BYTES.false ∙ ap (of_prefix alone) c.in-Ok.ensures
    ∙ not_alone c.in-Ok.read.0 c.in-Ok.read.1 c.in-Ok.read.2.now (sym c.is_empty.ensures ∙ c.if-not-is_empty.true)

pub returns : goal.returns
returns c =
    job_reads c.args.bytes.now c.if-bytes-gt-MAX_JOB_BYTES.false ∙ ap (of_prefix alone) c.in-Ok.ensures
    ∙ is_alone c.in-Ok.read.0 c.in-Ok.read.1 c.in-Ok.read.2.now (sym c.is_empty.ensures ∙ c.if-not-is_empty.false)
