use Rattle.std.proofs.Common.{◌∙◌, refl, sym, ap, subst, Result, ℕ, List}
use Rattle.base_text.specs.Chains.{◌>>=◌}
use Rattle.text_job.specs.HeadReading.{head_at}
use Rattle.text_job.specs.JobReading.{BadLine, LeadingJob, behind_scripts, leading_job, job_of_head, read}
use Rattle.text_job.specs.Reading.{FailsAt, GivesAt}
use Rattle.text_job.specs.declared.job.Job.{Job}
use Rattle.text_job.proofs.HeadRuns.{head_reads, pairs_on}
use Rattle.text_job.proofs.JobRuns.{fails_on}
use Rattle.text_job.proofs.reading.prefix_at.Goals as goal

pub returns-in-Err : goal.returns-in-Err
returns-in-Err c =
    subst (λ (r : Result LeadingJob BadLine). FailsAt c.in-Err.fault r) (sym (head_reads c.args.bytes.now))
    (fails_on c.in-Err.fault (head_at c.args.bytes.now) pairs_on c.in-Err.ensures.value)

pub returns-in-Err-pairs_at : goal.returns-in-Err-pairs_at
returns-in-Err-pairs_at c =
    let same = head_reads c.args.bytes.now ∙ ap
    (λ (r : Result (Job × List ℕ) BadLine). ◌>>=◌ {B = LeadingJob} r pairs_on) c.in-Ok.ensures.value in
    subst (λ (r : Result LeadingJob BadLine). FailsAt c.in-Err-pairs_at.fault r) (sym same) c.in-Err-pairs_at.ensures.value

pub returns-in-Err-services_from : goal.returns-in-Err-services_from
returns-in-Err-services_from c =
    let same = head_reads c.args.bytes.now ∙ ap
    (λ (r : Result (Job × List ℕ) BadLine). ◌>>=◌ {B = LeadingJob} r pairs_on) c.in-Ok.ensures.value
    ∙ c.in-Ok-pairs_at.ensures.value in
    subst (λ (r : Result LeadingJob BadLine). FailsAt c.in-Err-services_from.fault r) (sym same)
    c.in-Err-services_from.ensures.value

pub returns-in-Err-handlers_at : goal.returns-in-Err-handlers_at
returns-in-Err-handlers_at c =
    let same = head_reads c.args.bytes.now ∙ ap
    (λ (r : Result (Job × List ℕ) BadLine). ◌>>=◌ {B = LeadingJob} r pairs_on) c.in-Ok.ensures.value
    ∙ c.in-Ok-pairs_at.ensures.value ∙ c.in-Ok-services_from.ensures.value in
    subst (λ (r : Result LeadingJob BadLine). FailsAt c.in-Err-handlers_at.fault r) (sym same)
    (c.in-Err-handlers_at.ensures.value (job_of_head c.in-Ok-services_from.read.0) (sym c.scope_of-scope.ensures))

pub returns-in-Err-scripts_at : goal.returns-in-Err-scripts_at
returns-in-Err-scripts_at c =
    let head = job_of_head c.in-Ok-services_from.read.0 in
    let same = head_reads c.args.bytes.now ∙ ap
    (λ (r : Result (Job × List ℕ) BadLine). ◌>>=◌ {B = LeadingJob} r pairs_on) c.in-Ok.ensures.value
    ∙ c.in-Ok-pairs_at.ensures.value ∙ c.in-Ok-services_from.ensures.value ∙ c.in-Ok-handlers_at.ensures.value head (sym c.scope_of-scope.ensures) in
    subst (λ (r : Result LeadingJob BadLine). FailsAt c.in-Err-scripts_at.fault r) (sym same)
    (c.in-Err-scripts_at.ensures.value (record head { handlers = c.in-Ok-handlers_at.read.0 }) (sym c.scope_of-scope.ensures))

pub returns : goal.returns
returns c =
    let head = job_of_head c.in-Ok-services_from.read.0 in
    let same = head_reads c.args.bytes.now ∙ ap
    (λ (r : Result (Job × List ℕ) BadLine). ◌>>=◌ {B = LeadingJob} r pairs_on) c.in-Ok.ensures.value
    ∙ c.in-Ok-pairs_at.ensures.value ∙ c.in-Ok-services_from.ensures.value ∙ c.in-Ok-handlers_at.ensures.value head (sym c.scope_of-scope.ensures)
    ∙ c.in-Ok-scripts_at.ensures.value (record head { handlers = c.in-Ok-handlers_at.read.0 }) (sym c.scope_of-scope.ensures)
    ∙ ap (λ (j : Job). read (behind_scripts c.in-Ok-scripts_at.read.1 j) c.in-Ok-scripts_at.read.2
    c.in-Ok-scripts_at.read.3.now) (sym c.job_with.ensures) in
    subst (λ (r : Result LeadingJob BadLine). GivesAt (λ x. leading_job x.0 x.1 x.2.now) c.tail_at.result r) (sym same)
    c.tail_at.ensures
