use Rattle.std.proofs.Common.{◌∙◌, ◌<◌, ◌∷◌, [], ◌++◌, sym, ap, subst, arith, length, length-append, List, Result}
use Rattle.text_job.specs.Places.{AtHandlers}
use Rattle.text_job.specs.JobReading.{BadLine, LeadingJob, new_handler, read}
use Rattle.text_job.specs.Reading.{FailsAt}
use Rattle.text_job.specs.declared.job.HandlerText.{HandlerText}
use Rattle.text_job.specs.declared.job.Job.{Job}
use Rattle.text_job.proofs.PairLines.{handlers_over}
use Rattle.text_job.proofs.handler_lines.handlers_at.Goals as goal

pub returns-in-Err-clause-value : goal.returns-in-Err-clause-value
returns-in-Err-clause-value c = λ plain flag.
    subst (λ (r : Result LeadingJob BadLine). FailsAt c.in-Err.fault r) (c.loop-alloc.invariant.so_far plain flag)
    (c.in-Err.ensures.value (record plain { handlers = c.loop-alloc.texts.items }) flag (sym c.deref.ensures.value))

pub returns-in-Err-body_at-clause-value : goal.returns-in-Err-body_at-clause-value
returns-in-Err-body_at-clause-value c = λ plain flag.
    let job : Job = record plain { handlers = c.loop-alloc.texts.items } in
    let same = sym (c.loop-alloc.invariant.so_far plain flag)
    ∙ c.in-Ok.ensures.value job flag (sym c.deref.ensures.value) in
    subst (λ (r : Result LeadingJob BadLine). FailsAt c.in-Err-body_at.fault r) (sym same)
    (c.in-Err-body_at.ensures.value (new_handler c.in-Ok.read.0) job)

pub loop-alloc-preserved : goal.loop-alloc-preserved
loop-alloc-preserved c =
    let few : length c.loop-alloc.texts.items < 128 =
    subst (λ (texts : List HandlerText). length texts < 128) c.deref.ensures.value c.in-Ok.ensures.room in
    record {
      so_far = λ plain flag. let job : Job = record plain { handlers = c.loop-alloc.texts.items } in
          ap (λ (texts : List HandlerText). read (record {
            place = AtHandlers;
            job = record plain { handlers = texts };
          }) c.in-Ok-body_at.read.1 c.in-Ok-body_at.read.2.now)
          (c.in_ok-push.ensures.items ∙ ap (λ (h : HandlerText). c.loop-alloc.texts.items ++ h ∷ [])
          c.handler_of.ensures)
          ∙ sym (c.in-Ok-body_at.ensures.value (new_handler c.in-Ok.read.0) job)
          ∙ sym (c.in-Ok.ensures.value job flag (sym c.deref.ensures.value))
          ∙ c.loop-alloc.invariant.so_far plain flag;
      line = rw c.in_ok-push.ensures.items (simp length-append (omega
          (arith, c.loop-alloc.invariant.line, c.in-Ok-body_at.ensures.later)));
      few = rw c.in_ok-push.ensures.items (simp length-append (omega (arith, few)));
    }

pub returns-clause-value : goal.returns-clause-value
returns-clause-value c = λ plain flag.
    let job : Job = record plain { handlers = c.loop-alloc.texts.items } in
    sym (c.loop-alloc.invariant.so_far plain flag) ∙ handlers_over job c.loop-alloc.line c.loop-alloc.rest.now
    (sym c.begins.ensures ∙ c.loop-alloc-test.false)
