use Rattle.std.proofs.Common.{sym, subst, Result}
use Rattle.text_job.specs.JobReading.{BadLine, LeadingJob, job_of_head, read}
use Rattle.text_job.specs.Places.{AtHandlers}
use Rattle.text_job.specs.Reading.{Continues}
use Rattle.text_job.proofs.collect_line.services_from.Goals as goal

pub returns-clause-value : goal.returns-clause-value
returns-clause-value c =
    subst (λ (r : Result LeadingJob BadLine). Continues
    (λ x. read (record { place = AtHandlers; job = job_of_head x.0 }) x.1 x.2.now) c.collect_from.result r)
    (sym c.in-Ok.ensures.value) c.collect_from.ensures.value
