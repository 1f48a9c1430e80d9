use Rattle.std.proofs.Common.{◌∙◌, ◌+◌, refl, sym, Some}
use Rattle.text_job.specs.declared.job.Job.{Job}
use Rattle.text_job.proofs.LineRuns.{over_read}
use Rattle.text_job.proofs.endings.tail_at.Goals as goal

pub returns-then-not-schedule : goal.returns-then-not-schedule
returns-then-not-schedule c = rw c.if-not-schedule.true (over_read c.args.job c.args.line c.args.bytes.now)

pub returns : goal.returns
returns c =
    let job : Job = record c.args.job { schedule = Some c.in-Ok.read.0 } in
    rw c.if-not-schedule.false (c.in-Ok.ensures.value c.args.job (rw c.is_some.ensures refl) (sym c.pieces-before.ensures.pieces) ∙ c.in-Ok-done_line.ensures job
    ∙ over_read job (c.in-Ok.read.1 + 1) c.in-Ok-done_line.rest.now)
