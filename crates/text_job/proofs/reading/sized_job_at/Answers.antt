use Rattle.std.proofs.Common.{◌∙◌, ℕ, sym, ap, subst, arith, length, Result}
use Rattle.text_job.specs.JobReading.{BadLine, leading_job, of_prefix, read, within_size, start}
use Rattle.text_job.specs.Reading.{FailsAt}
use Rattle.text_job.specs.declared.job.Job.{Job}
use Rattle.text_job.proofs.JobRuns.{prefix_fails, prefix_reads, is_sized, not_sized}
use Rattle.text_job.proofs.Refusing.{rest_size}
use Rattle.text_job.proofs.reading.sized_job_at.Goals as goal

pub overflow_sub-size : goal.overflow_sub-size
overflow_sub-size c =
    let size = rest_size c.args.bytes.now (leading_job c.in-Ok.read.0 c.in-Ok.read.1 c.in-Ok.read.2.now) c.in-Ok.ensures
    in
    omega (arith, size)

pub returns-in-Err : goal.returns-in-Err
returns-in-Err c =
    subst (λ (r : Result (Job × ℕ) BadLine). FailsAt c.in-Err.fault r) (sym (prefix_reads c.args.bytes.now))
    (prefix_fails c.in-Err.fault (within_size (length c.args.bytes.now)) (read start 1 c.args.bytes.now) c.in-Err.ensures)

pub returns-then-size-gt-MAX_JOB_BYTES : goal.returns-then-size-gt-MAX_JOB_BYTES
returns-then-size-gt-MAX_JOB_BYTES c =
    prefix_reads c.args.bytes.now ∙ ap (of_prefix (within_size (length c.args.bytes.now))) c.in-Ok.ensures
    ∙ not_sized c.in-Ok.read.0 c.in-Ok.read.1 (length c.args.bytes.now) c.in-Ok.read.2.now
    (omega (arith, c.if-size-gt-MAX_JOB_BYTES.true))

pub returns : goal.returns
returns c =
    prefix_reads c.args.bytes.now ∙ ap (of_prefix (within_size (length c.args.bytes.now))) c.in-Ok.ensures
    ∙ is_sized c.in-Ok.read.0 c.in-Ok.read.1 (length c.args.bytes.now) c.in-Ok.read.2.now
    (omega (arith, c.if-size-gt-MAX_JOB_BYTES.false))
