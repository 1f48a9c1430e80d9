-- What is said of a run: what commands share that run a job.
use Rattle.std.specs.Prelude.{◌≡◌, List, ◌++◌, Bool, ℕ}
use Rattle.base_text.specs.LineTexts.{Line}
use Rattle.text_job.specs.declared.job.Job.{Job as JobState}
use Rattle.sim_drill.specs.RunText.{is_violated}
use Rattle.sim_drill.specs.RunLaws.{RunLaws}
use Rattle.cli_commands.specs.Commands.{end_of}
use Rattle.cli_commands.specs.HowEnds.{After, said_last}
use Rattle.cli_commands.specs.declared.ending.CommandEnd.TheVariants as ends

-- the run of a job came to its end, its laws hold, and a node noted a violation or none: these lines of it, and the
-- status line; and there is the world after the run
pub record EndsRun (job : JobState) (lines : List Line) (violated : Bool) (after : After) (said : List ℕ)
    : Type 0 where
  pub laws : RunLaws job
  pub violated_is : is_violated job ≡ violated
  pub said_is : said ≡ said_last lines (end_of violated)
  pub world_after : after.ran job

-- memory ran out in the run of a job, whose laws hold: whole lines of it, up to the rest, and the status line
pub record LeavesRun (job : JobState) (lines : List Line) (after : After) (said : List ℕ) : Type 0 where
  pub laws : RunLaws job
  pub prefix : List Line
  pub rest : List Line
  pub whole : lines ≡ prefix ++ rest
  pub said_is : said ≡ said_last prefix ends.NoMemory
  pub nothing_given : after.none
