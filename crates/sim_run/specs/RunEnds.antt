-- How the run of a job ends.
use Rattle.std.specs.Prelude.{◌≡◌, List, Bool}
use Rattle.base_io.specs.Buffered.{Outbox, Gathers, GathersPrefix}
use Rattle.sim_world.specs.WorldState.{WorldState}
use Rattle.base_text.specs.LineTexts.{Line, spell}
use Rattle.text_job.specs.declared.job.Job.{Job as JobState}
use Rattle.sim_run.specs.LinesWritten.{LinesUpTo}
use Rattle.sim_run.specs.RunText.{is_violated, run_lines}
use Rattle.sim_run.specs.ScheduleRun.{StandsForRun}
use Rattle.sim_run.specs.declared.run.RunEnd.{RunEnd}
use Rattle.sim_run.specs.declared.run.RunEnd.TheVariants.{Done, Fault, NoMemory}

-- the run of the job came to its end: these lines of it went in, and the world stands for its end
pub record RunIsOver (job : JobState) (said : List Line) (old new : Outbox) (violated : Bool) (world : WorldState)
    : Type 0 where
  pub lines : Gathers old new (spell said)
  pub violated_is : violated ≡ is_violated job
  pub stands : StandsForRun job world

-- how far these lines of the job's run went in: all; at a fault of the sink, a prefix of their text; where memory ran
-- out, some whole lines
abbrev pub EndsSaying : JobState → (said : List Line) → (old new : Outbox) → RunEnd → Type 0
EndsSaying job said old new (Done violated world) = RunIsOver job said old new violated world
EndsSaying job said old new Fault = GathersPrefix old new (spell said)
EndsSaying job said old new NoMemory = (rest : List Line) × LinesUpTo old new said rest

-- so for all lines of the run
abbrev pub RunEnds : JobState → (old new : Outbox) → RunEnd → Type 0
RunEnds job = EndsSaying job (run_lines job)
