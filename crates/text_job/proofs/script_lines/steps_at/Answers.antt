use Rattle.std.proofs.Common.{◌∙◌, ◌≡◌, ◌+◌, refl, sym, ap, subst, arith, length, length-append, List, Result}
use Rattle.std.proofs.Common.{true, false}
use Rattle.text_job.specs.Places.{AtScripts, AtSteps}
use Rattle.text_job.specs.JobReading.{BadLine, LeadingJob, is_full_script, read, with_script, with_step}
use Rattle.text_job.specs.JobReading.{with_steps}
use Rattle.text_job.specs.PlanPieces.{scripts_pieces}
use Rattle.text_job.specs.StepPieces.{steps_pieces}
use Rattle.text_job.specs.Reading.{FailsAt}
use Rattle.base_text.specs.declared.why.LineWhy.TheVariants.{Count}
use Rattle.text_steps.specs.declared.steps.ScriptStep.{ScriptStep}
use Rattle.text_job.specs.declared.job.NodeScript.{NodeScript}
use Rattle.text_job.proofs.HandlerRuns.{few_steps}
use Rattle.text_job.proofs.PlanPieces.{steps_more}
use Rattle.text_job.proofs.LineRuns.{read_on, read_full, told_ok, line_fails}
use Rattle.text_job.proofs.script_lines.steps_at.Goals as goal

pub returns-in-Err-clause-value : goal.returns-in-Err-clause-value
returns-in-Err-clause-value c = λ plain job same before.
    subst (λ (r : Result LeadingJob BadLine). FailsAt c.in-Err.fault r)
    (c.loop-read.invariant.so_far plain job same before)
    (line_fails (AtSteps (with_steps c.loop-read.steps.items plain)) tt job c.loop-read.line c.loop-read.rest.now
    c.in-Err.fault (rw same c.in-Err.ensures))

pub returns-in_default-clause-value : goal.returns-in_default-clause-value
returns-in_default-clause-value c = λ plain job same before.
    let script : NodeScript = with_steps c.loop-read.steps.items plain in
    sym (c.loop-read.invariant.so_far plain job same before)
    ∙ read_on (AtSteps script) job c.loop-read.line c.loop-read.rest.now
    c.in-Ok.read.1.now c.in-Ok.read.0 (record { place = AtScripts; job = with_script script job })
    (rw same (told_ok c.loop-read.line _ _ (c.in-Ok.read.0, c.in-Ok.read.1.now) c.in-Ok.ensures)) (rw c.in_default.is refl)

pub returns-then-is_full_script-clause-value : goal.returns-then-is_full_script-clause-value
returns-then-is_full_script-clause-value c = λ plain job same before.
    let steps = c.loop-read.steps.items in
    let script : NodeScript = with_steps steps plain in
    let len : c.len.result ≡ length steps = omega (arith, c.len.ensures) in
    let out = rw (len, c.loop-read.invariant.pieces) at (sym c.is_full_script.ensures
    ∙ c.if-is_full_script.true) in
    let full : is_full_script (scripts_pieces job.scripts + steps_pieces steps) (length steps) c.in-Some.step ≡ true =
    rw before out in
    sym (c.loop-read.invariant.so_far plain job same before) ∙ read_full (AtSteps script) job c.loop-read.line
    c.loop-read.rest.now c.in-Ok.read.1.now c.in-Ok.read.0 Count
    (rw same (told_ok c.loop-read.line _ _ (c.in-Ok.read.0, c.in-Ok.read.1.now) c.in-Ok.ensures))
    (rw (c.in-Some.is, full) refl)

pub loop-read-preserved : goal.loop-read-preserved
loop-read-preserved c =
    let steps = c.loop-read.steps.items in
    let step = c.in-Some.step in
    let len : c.len.result ≡ length steps = omega (arith, c.len.ensures) in
    let in_ = rw (len, c.loop-read.invariant.pieces) at (sym c.is_full_script.ensures
    ∙ c.if-is_full_script.false) in
    let few = few_steps (c.args.before + steps_pieces steps) (length steps) step in_ in
    let more = steps_more steps step in
    record {
      so_far = λ plain job same before. let script : NodeScript = with_steps steps plain in
          let free : is_full_script (scripts_pieces job.scripts + steps_pieces steps) (length steps) step ≡ false =
          rw before in_ in
          ap (λ (steps : List ScriptStep). read (record {
            place = AtSteps (with_steps steps plain);
            job = job;
          })
          (c.loop-read.line + 1) c.in-Ok.read.1.now) c.in_ok-push.ensures.items
          ∙ sym (read_on (AtSteps script) job c.loop-read.line c.loop-read.rest.now c.in-Ok.read.1.now
          c.in-Ok.read.0 (record { place = AtSteps (with_step step script); job = job })
          (rw same (told_ok c.loop-read.line _ _ (c.in-Ok.read.0, c.in-Ok.read.1.now) c.in-Ok.ensures))
          (rw (c.in-Some.is, free) refl))
          ∙ c.loop-read.invariant.so_far plain job same before;
      pieces = rw c.in_ok-push.ensures.items (omega (
        arith,
        more,
        c.loop-read.invariant.pieces,
        c.step_pieces-pieces.ensures,
      ));
      room = omega (arith, few.1, c.loop-read.invariant.pieces, c.step_pieces-pieces.ensures);
      line = rw c.in_ok-push.ensures.items (simp length-append (omega (arith, c.loop-read.invariant.line)));
      few = rw c.in_ok-push.ensures.items (simp length-append (omega (arith, few.0)));
    }
