use Rattle.std.proofs.Common.{◌∙◌, ◌+◌, sym, ap, arith}
use Rattle.text_job.specs.Places.{AtPairs}
use Rattle.text_job.specs.Scopes.{scope_of}
use Rattle.text_job.specs.JobReading.{job_of_head, read}
use Rattle.text_job.specs.declared.job.Job.{Job}
use Rattle.text_job.proofs.HandlerRuns.{told_by}
use Rattle.text_job.proofs.PairLines.{pair_read, pair_full, pair_bad, pairs_over}
use Rattle.text_job.proofs.pair_lines.pairs_at.Goals as goal

pub returns-in-Err-clause-value : goal.returns-in-Err-clause-value
returns-in-Err-clause-value c =
    told_by _ c.loop-head.line _ c.pair_why-why.result
    (sym c.loop-head.invariant.so_far ∙ pair_bad (job_of_head c.loop-head.head) c.loop-head.line c.loop-head.rest.now
    (sym c.begins.ensures ∙ c.loop-head-test.true) c.in-Err.ensures.value)
    (c.pair_why-why.ensures (scope_of (job_of_head c.loop-head.head)))

pub returns-in-Err-with_pair-clause-value : goal.returns-in-Err-with_pair-clause-value
returns-in-Err-with_pair-clause-value c =
    sym c.loop-head.invariant.so_far
    ∙ pair_full (job_of_head c.loop-head.head) c.loop-head.line c.loop-head.rest.now c.in-Ok.read.1.now
    c.in-Ok.read.0 c.in-Err-with_pair.why (sym c.begins.ensures
    ∙ c.loop-head-test.true) c.in-Ok.ensures.value c.in-Err-with_pair.ensures.value

pub loop-head-preserved : goal.loop-head-preserved
loop-head-preserved c =
    let value = c.in-Ok-with_pair.ensures.value in
    let count = c.in-Ok-with_pair.ensures.count in
    record {
      so_far = ap (λ (job : Job). read (record { place = AtPairs; job = job })
          (c.loop-head.line + 1) c.in-Ok.read.1.now) value.1
          ∙ sym (pair_read (job_of_head c.loop-head.head) c.loop-head.line c.loop-head.rest.now c.in-Ok.read.1.now
          c.in-Ok.read.0 (sym c.begins.ensures ∙ c.loop-head-test.true) c.in-Ok.ensures.value value.0)
          ∙ c.loop-head.invariant.so_far;
      sum = c.in-Ok-with_pair.ensures.sum;
      range = c.in-Ok-with_pair.ensures.range;
      line = omega (arith, c.loop-head.invariant.line, count.0);
      few = omega (arith, count.0, count.1);
    }

pub returns-clause-value : goal.returns-clause-value
returns-clause-value c =
    sym c.loop-head.invariant.so_far ∙ pairs_over (job_of_head c.loop-head.head) c.loop-head.line
    c.loop-head.rest.now (sym c.begins.ensures ∙ c.loop-head-test.false)
