use Rattle.std.proofs.Common.{◌∙◌, sym}
use Rattle.text_job.specs.JobReading.{job_of_head}
use Rattle.text_job.proofs.HandlerRuns.{told_by}
use Rattle.text_job.proofs.PairLines.{collect_read, collect_bad, collect_over}
use Rattle.text_job.proofs.collect_line.collect_from.Goals as goal

pub returns-then-not-begins-clause-value : goal.returns-then-not-begins-clause-value
returns-then-not-begins-clause-value c =
    collect_over (job_of_head c.args.head) c.args.line c.args.bytes.now
    (sym c.begins.ensures ∙ c.if-not-begins.true)

pub returns-in-Ok-clause-value : goal.returns-in-Ok-clause-value
returns-in-Ok-clause-value c =
    collect_read (job_of_head c.args.head) c.args.line c.args.bytes.now c.in-Ok.rest.now c.in-Ok.area
    (sym c.begins.ensures ∙ c.if-not-begins.false) (rw c.scope_of-scope.ensures at c.in-Ok.ensures)

pub returns-in-Err-clause-value : goal.returns-in-Err-clause-value
returns-in-Err-clause-value c =
    told_by _ c.args.line _ c.collect_why-why.result
    (collect_bad (job_of_head c.args.head) c.args.line c.args.bytes.now
    (sym c.begins.ensures ∙ c.if-not-begins.false) (rw c.scope_of-scope.ensures at c.in-Err.ensures))
    (rw c.scope_of-scope.ensures at c.collect_why-why.ensures)
