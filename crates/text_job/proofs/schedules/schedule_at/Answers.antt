use Rattle.std.proofs.Common.{◌∙◌, ◌≡◌, ◌≤◌, ◌+◌, refl, sym, ap, subst, arith, length-append, List, Some, Result}
use Rattle.std.proofs.Common.{true, false}
use Rattle.text_job.specs.Places.{AtSchedule, AtDone}
use Rattle.text_job.specs.JobReading.{BadLine, LeadingJob, amounts_of, is_full, with_line, read}
use Rattle.text_job.specs.PlanPieces.{scripts_pieces}
use Rattle.text_job.specs.Reading.{FailsAt}
use Rattle.base_text.specs.declared.why.LineWhy.TheVariants.{Count}
use Rattle.text_job.specs.declared.job.Job.{Job}
use Rattle.text_calls.specs.declared.scope.Scope.{Scope}
use Rattle.text_steps.specs.declared.steps.TimedEvent.{TimedEvent}
use Rattle.text_job.specs.declared.schedules.Amounts.{Amounts}
use Rattle.text_job.proofs.HandlerRuns.{amounts_more, let_in, kept_out, few_full}
use Rattle.text_job.proofs.LineRuns.{read_on, read_full, told_ok, line_fails}
use Rattle.text_job.proofs.schedules.schedule_at.Goals as goal

pub returns-in-Err-clause-value : goal.returns-in-Err-clause-value
returns-in-Err-clause-value c = λ plain same before.
    subst (λ (r : Result LeadingJob BadLine). FailsAt c.in-Err.fault r)
    (c.loop-read.invariant.lines_so_far plain same before)
    (line_fails AtSchedule tt (record plain { schedule = Some c.loop-read.lines.items }) c.loop-read.line
    c.loop-read.rest.now c.in-Err.fault (rw same c.in-Err.ensures))

pub returns-in_default-clause-value : goal.returns-in_default-clause-value
returns-in_default-clause-value c = λ plain same before.
    let job : Job = record plain { schedule = Some c.loop-read.lines.items } in
    let found = told_ok c.loop-read.line _ _ (c.in-Ok.read.0, c.in-Ok.read.1.now) c.in-Ok.ensures in
    sym (c.loop-read.invariant.lines_so_far plain same before)
    ∙ read_on AtSchedule job c.loop-read.line c.loop-read.rest.now
    c.in-Ok.read.1.now c.in-Ok.read.0 (record { place = AtDone; job = job }) (rw same found)
    (rw c.in_default.is refl)

pub returns-in_default-admitted-clause-value : goal.returns-in_default-admitted-clause-value
returns-in_default-admitted-clause-value c = λ plain same before.
    let lines = c.loop-read.lines.items in
    let job : Job = record plain { schedule = Some lines } in
    let found = told_ok c.loop-read.line _ _ (c.in-Ok.read.0, c.in-Ok.read.1.now) c.in-Ok.ensures in
    let none = rw (c.nodes.ensures.nodes, c.loop-read.invariant.amounts) at (sym c.admitted.ensures
    ∙ c.in_default-admitted.is) in
    let out = kept_out c.args.scope.now.settings.nodes (amounts_of c.args.before lines) c.in-Some.event.event none in
    let settings : plain.settings ≡ c.args.scope.now.settings = ap (λ (s : Scope). s.settings) same in
    let full : is_full plain.settings.nodes (amounts_of (scripts_pieces plain.scripts) lines) c.in-Some.event.event
    ≡ true = rw (settings, before) out in
    sym (c.loop-read.invariant.lines_so_far plain same before)
    ∙ read_full AtSchedule job c.loop-read.line c.loop-read.rest.now
    c.in-Ok.read.1.now c.in-Ok.read.0 Count (rw same found) (rw (c.in-Some.is, full) refl)

pub loop-read-preserved : goal.loop-read-preserved
loop-read-preserved c =
    let lines = c.loop-read.lines.items in
    let event = c.in-Some.event in
    let some = rw (c.nodes.ensures.nodes, c.loop-read.invariant.amounts) at (sym c.admitted.ensures
    ∙ c.in-Some-admitted.is) in
    let in_ = let_in c.args.scope.now.settings.nodes (amounts_of c.args.before lines) event.event
    c.in-Some-admitted.amounts some in
    let few = few_full c.args.scope.now.settings.nodes (amounts_of c.args.before lines) event.event in_.0 in
    let found = told_ok c.loop-read.line _ _ (c.in-Ok.read.0, c.in-Ok.read.1.now) c.in-Ok.ensures in
    record {
      lines_so_far = λ plain same before. let job : Job = record plain { schedule = Some lines } in
          let settings : plain.settings ≡ c.args.scope.now.settings = ap (λ (s : Scope). s.settings) same in
          let free : is_full plain.settings.nodes (amounts_of (scripts_pieces plain.scripts) lines) event.event
          ≡ false = rw (settings, before) in_.0 in
          ap (λ (ls : List TimedEvent). read (record {
            place = AtSchedule;
            job = record plain { schedule = Some ls };
          }) (c.loop-read.line + 1) c.in-Ok.read.1.now) c.in_ok-push.ensures.items
          ∙ sym (read_on AtSchedule job c.loop-read.line c.loop-read.rest.now c.in-Ok.read.1.now c.in-Ok.read.0
          (record { place = AtSchedule; job = with_line event job }) (rw same found)
          (rw (c.in-Some.is, free) refl))
          ∙ c.loop-read.invariant.lines_so_far plain same before;
      amounts = sym in_.1 ∙ sym (amounts_more c.args.before lines event)
          ∙ ap (amounts_of c.args.before) (sym c.in_ok-push.ensures.items);
      rounds = subst (λ (a : Amounts). a.rounds ≤ 4096) in_.1 few.1;
      pieces = subst (λ (a : Amounts). a.pieces ≤ 65536) in_.1 few.3;
      line = rw c.in_ok-push.ensures.items (simp length-append (omega (arith, c.loop-read.invariant.line)));
      few = rw c.in_ok-push.ensures.items (simp length-append (omega (arith, few.0)));
    }
