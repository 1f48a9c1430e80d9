use Rattle.std.proofs.Common.{◌∙◌, ◌+◌, refl, sym, ap, subst, arith, length, length-append, List, Result}
use Rattle.std.proofs.lemmas.Bool.{le-leb, lt-leb}
use Rattle.text_job.specs.Places.{AtHandlers, AtBody}
use Rattle.text_job.specs.JobReading.{BadLine, LeadingJob, read, with_action, with_body, with_handler}
use Rattle.text_job.specs.Reading.{FailsAt}
use Rattle.base_text.specs.declared.why.LineWhy.TheVariants.{Count}
use Rattle.text_steps.specs.declared.steps.Action.{Action}
use Rattle.text_job.specs.declared.job.HandlerText.{HandlerText}
use Rattle.text_job.proofs.LineRuns.{read_on, read_full, told_ok, line_fails}
use Rattle.text_job.proofs.handler_lines.body_at.Goals as goal

pub returns-in-Err-clause-value : goal.returns-in-Err-clause-value
returns-in-Err-clause-value c = λ plain job.
    subst (λ (r : Result LeadingJob BadLine). FailsAt c.in-Err.fault r) (c.loop-read.invariant.so_far plain job)
    (line_fails (AtBody (with_body c.loop-read.actions.items plain)) tt job c.loop-read.line c.loop-read.rest.now
    c.in-Err.fault c.in-Err.ensures)

pub returns-in_default-clause-value : goal.returns-in_default-clause-value
returns-in_default-clause-value c = λ plain job.
    let handler : HandlerText = with_body c.loop-read.actions.items plain in
    sym (c.loop-read.invariant.so_far plain job) ∙ read_on (AtBody handler) job c.loop-read.line c.loop-read.rest.now
    c.in-Ok.read.1.now c.in-Ok.read.0 (record { place = AtHandlers; job = with_handler handler job })
    (told_ok c.loop-read.line _ _ (c.in-Ok.read.0, c.in-Ok.read.1.now) c.in-Ok.ensures) (rw c.in_default.is refl)

pub returns-then-len-ge-ACTIONS-clause-value : goal.returns-then-len-ge-ACTIONS-clause-value
returns-then-len-ge-ACTIONS-clause-value c = λ plain job.
    let handler : HandlerText = with_body c.loop-read.actions.items plain in
    sym (c.loop-read.invariant.so_far plain job) ∙ read_full (AtBody handler) job c.loop-read.line
    c.loop-read.rest.now c.in-Ok.read.1.now c.in-Ok.read.0 Count
    (told_ok c.loop-read.line _ _ (c.in-Ok.read.0, c.in-Ok.read.1.now) c.in-Ok.ensures)
    (rw (
      c.in-Some.is,
      le-leb 64 (length c.loop-read.actions.items) (omega
          (arith, c.len.ensures, c.if-len-ge-ACTIONS.true)),
    ) refl)

pub loop-read-preserved : goal.loop-read-preserved
loop-read-preserved c =
    record {
      so_far = λ plain job. let handler : HandlerText = with_body c.loop-read.actions.items plain in
          ap (λ (actions : List Action). read (record {
            place = AtBody (with_body actions plain);
            job = job;
          })
          (c.loop-read.line + 1) c.in-Ok.read.1.now) c.in_ok-push.ensures.items
          ∙ sym (read_on (AtBody handler) job c.loop-read.line c.loop-read.rest.now c.in-Ok.read.1.now
          c.in-Ok.read.0 (record { place = AtBody (with_action c.in-Some.action handler); job = job })
          (told_ok c.loop-read.line _ _ (c.in-Ok.read.0, c.in-Ok.read.1.now) c.in-Ok.ensures)
          (rw (
            c.in-Some.is,
            lt-leb 64 (length c.loop-read.actions.items) (omega
                (arith, c.len.ensures, c.if-len-ge-ACTIONS.false)),
          ) refl))
          ∙ c.loop-read.invariant.so_far plain job;
      line = rw c.in_ok-push.ensures.items (simp length-append (omega (arith, c.loop-read.invariant.line)));
      few = rw c.in_ok-push.ensures.items (simp length-append (omega
          (arith, c.len.ensures, c.if-len-ge-ACTIONS.false)));
    }
