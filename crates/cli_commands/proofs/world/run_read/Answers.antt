use Rattle.std.proofs.Common.{inl, subst, sym}
use Rattle.text_job.specs.JobText.{IsJob}
use Rattle.text_job.specs.declared.job.Job.{Job as JobState}
use Rattle.sim_drill.specs.RunText.{run_lines}
use Rattle.cli_commands.specs.JobReads.{GivesJob}
use Rattle.cli_commands.specs.declared.ending.CommandEnd.TheVariants as ends
use Rattle.cli_commands.proofs.LastLine.{alone, says_alone}
use Rattle.cli_commands.proofs.RunTold.{run_told}
use Rattle.cli_commands.proofs.WorldCommand.{weak_world, world_runs}
use Rattle.cli_commands.proofs.world.run_read.Goals as goal

pub run_job-run-requires : goal.run_job-run-requires
run_job-run-requires g c = subst IsJob (sym c.in-Ok.ensures) c.requires

pub returns-in-Ok : goal.returns-in-Ok
returns-in-Ok g c = λ reading read.
    let job = c.in-Ok.script in
    let given = subst (λ (j : JobState). GivesJob reading j) (sym c.in-Ok.ensures) read in
    run_told _ job (run_lines job) _ _ _ c.run_job-run.result c.say_run.result
    (world_runs reading job given c.run_job-run.ensures.laws) c.run_job-run.ensures.run c.say_run.ensures

pub returns-in-Err : goal.returns-in-Err
returns-in-Err g c = λ reading read.
    let says = rw c.nothing.ensures at c.say.ensures in
    says_alone _ _ _ ends.NoMemory c.say.result (weak_world reading) tt (inl (alone ends.NoMemory)) says
