use Rattle.std.proofs.Common.{sym, subst}
use Rattle.std.specs.Fmt.{digits}
use Rattle.std.specs.Result.{IfOk}
use Rattle.text_job.specs.declared.job.Job.{Job as JobState}
use Rattle.sim_drill.specs.Rounds.{bare_job}
use Rattle.sim_drill.proofs.BareJob.{bare_text, never_bad}
use Rattle.sim_drill.proofs.drill.drill_script.Goals as goal

pub new-requires : goal.new-requires
new-requires c = c.in-Ok.ensures.found.is_job

pub returns-in-Ok : goal.returns-in-Ok
unfolding digits
returns-in-Ok c = rw (c.in-Ok.ensures.one bare_job bare_text) c.new.ensures

pub unreachable-requires : goal.unreachable-requires
unfolding digits
unreachable-requires c = never_bad _ _ _ _ c.in-Err-Bad.field-0-is bare_text c.in-Err-Bad.ensures.none
