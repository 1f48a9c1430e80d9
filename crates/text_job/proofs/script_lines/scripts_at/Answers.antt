use Rattle.std.proofs.Common.{◌≡◌, ◌∙◌, ◌+◌, ◌∷◌, [], ◌++◌, sym, ap, subst, arith, length-append, List, Result}
use Rattle.std.proofs.Common.{Bool, true}
use Rattle.text_job.specs.Places.{AtScripts, section_fits}
use Rattle.text_job.specs.JobReading.{BadLine, LeadingJob, begun_script, behind_scripts, behind_section}
use Rattle.text_job.specs.JobReading.{section_why}
use Rattle.text_job.specs.JobReading.{with_steps, read}
use Rattle.text_job.specs.Reading.{FailsAt}
use Rattle.text_job.specs.declared.job.NodeScript.{NodeScript}
use Rattle.text_job.specs.declared.job.Job.{Job}
use Rattle.text_calls.specs.declared.scope.Scope.{Scope}
use Rattle.text_job.specs.declared.sections.Section.{Section}
use Rattle.text_job.proofs.HandlerRuns.{other_section, script_there, script_new}
use Rattle.text_job.proofs.JobLaws.{all_more}
use Rattle.text_job.proofs.PlanPieces.{scripts_more}
use Rattle.text_job.proofs.Threads.{IsThere, threads_more, threads_few}
use Rattle.text_job.proofs.script_lines.scripts_at.Goals as goal

pub returns-in-Err-clause-value : goal.returns-in-Err-clause-value
returns-in-Err-clause-value c = λ plain same.
    subst (λ (r : Result LeadingJob BadLine). FailsAt c.in-Err.fault r) (c.loop-read.invariant.so_far plain same)
    (c.in-Err.ensures.value (record plain { scripts = c.loop-read.scripts.items }) (ap (λ (s : Scope). s.settings) same) (sym c.deref.ensures.value))

pub returns-in_default-clause-value : goal.returns-in_default-clause-value
returns-in_default-clause-value c = λ plain same.
    let job : Job = record plain { scripts = c.loop-read.scripts.items } in
    sym (c.loop-read.invariant.so_far plain same) ∙ c.in-Ok.ensures.value job (ap (λ (s : Scope). s.settings) same) (sym c.deref.ensures.value)
    ∙ ap (λ s. read s (c.loop-read.line + 1) c.in-Ok.read.1.now)
    (other_section job c.in-Ok.read.0 (λ node thread e. c.in_default.not-Script node thread e)
    ∙ ap (λ (b : Bool). behind_scripts b job) (sym c.is_schedule-schedule.ensures))

pub returns-in-Err-steps_at-clause-value : goal.returns-in-Err-steps_at-clause-value
returns-in-Err-steps_at-clause-value c = λ plain same.
    let job : Job = record plain { scripts = c.loop-read.scripts.items } in
    let begun = sym (c.loop-read.invariant.so_far plain same)
    ∙ c.in-Ok.ensures.value job (ap (λ (s : Scope). s.settings) same) (sym c.deref.ensures.value)
    ∙ ap (λ (s : Section). read (behind_section job s) (c.loop-read.line + 1) c.in-Ok.read.1.now) c.in-Script.is in
    subst (λ (r : Result LeadingJob BadLine). FailsAt c.in-Err-steps_at.fault r) (sym begun)
    (c.in-Err-steps_at.ensures.value (begun_script c.in-Script.node c.in-Script.thread) job same
    (sym c.loop-read.invariant.pieces))

pub loop-read-preserved : goal.loop-read-preserved
loop-read-preserved c =
    let scripts = c.loop-read.scripts.items in
    let script : NodeScript = with_steps c.in-Ok-steps_at.read.0 (begun_script c.in-Script.node c.in-Script.thread) in
    let fits = subst (λ (s : Section). section_fits 256 16 s ≡ true) c.in-Script.is c.in-Ok.ensures.there in
    let is = script_there 256 16 c.in-Script.node c.in-Script.thread fits in
    let why = ap (λ (s : Section). section_why scripts s) (sym c.in-Script.is)
    ∙ ap (λ (ss : List NodeScript). section_why ss c.in-Ok.read.0) (sym c.deref.ensures.value) ∙ c.in-Ok.ensures.new in
    let new = script_new scripts c.in-Script.node c.in-Script.thread why in
    let are = threads_more scripts script c.loop-read.invariant.threads new in
    let there = all_more (IsThere 256 16) scripts script c.loop-read.invariant.there is in
    let more = scripts_more scripts script in
    let pushed = c.in_ok-push.ensures.items ∙ ap (λ (s : NodeScript). scripts ++ s ∷ []) c.script_of.ensures in
    record {
      so_far = λ plain same. let job : Job = record plain { scripts = scripts } in
          ap (λ (ss : List NodeScript). read (record {
            place = AtScripts;
            job = record plain { scripts = ss };
          }) c.in-Ok-steps_at.read.1 c.in-Ok-steps_at.read.2.now) pushed
          ∙ sym (c.in-Ok-steps_at.ensures.value (begun_script c.in-Script.node c.in-Script.thread) job same
          (sym c.loop-read.invariant.pieces))
          ∙ ap (λ (s : Section). read (behind_section job s) (c.loop-read.line + 1) c.in-Ok.read.1.now)
          (sym c.in-Script.is)
          ∙ sym (c.in-Ok.ensures.value job (ap (λ (s : Scope). s.settings) same) (sym c.deref.ensures.value))
          ∙ c.loop-read.invariant.so_far plain same;
      threads = rw pushed are;
      there = rw pushed there;
      pieces = rw pushed (omega (arith, more, c.loop-read.invariant.pieces, c.pieces-pieces.ensures));
      room = omega (arith, c.in-Ok-steps_at.ensures.few, c.pieces-pieces.ensures);
      few = rw pushed (threads_few (scripts ++ script ∷ []) are there);
      line = rw pushed (simp length-append (omega
          (arith, c.loop-read.invariant.line, c.in-Ok-steps_at.ensures.later)));
    }
