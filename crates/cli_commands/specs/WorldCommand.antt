-- The command `world`: a job is read, and run in a world.
use Rattle.std.specs.Prelude.{◌⊎◌, List, [], ◌∷◌, Bool, true, false, ℕ}
use Rattle.std.specs.List.{Contains}
use Rattle.text_job.specs.declared.job.Job.{Job as JobState}
use Rattle.sim_drill.specs.RunText.{run_lines}
use Rattle.cli_commands.specs.Outsides.{Call, IsFaultless, Reading, read_in}
use Rattle.cli_commands.specs.HowEnds.{After, EndsHow, SaysAlone}
use Rattle.cli_commands.specs.JobReads.{FailsToRead, GivesJob, HoldsJob, RefusesJob}
use Rattle.cli_commands.specs.RunReports.{EndsRun, LeavesRun}
use Rattle.cli_commands.specs.Statuses.{CodeMeans}
use Rattle.cli_commands.specs.declared.ending.CommandEnd.TheVariants as ends

-- a job was read, and its run came to its end
pub record RunsJob (reading : Reading) (violated : Bool) (after : After) (said : List ℕ) : Type 0 where
  pub job : JobState
  pub read : GivesJob reading job
  pub run : EndsRun job (run_lines job) violated after said

-- a job was read, and memory ran out in its run
pub record LeavesJob (reading : Reading) (after : After) (said : List ℕ) : Type 0 where
  pub job : JobState
  pub read : GivesJob reading job
  pub run : LeavesRun job (run_lines job) after said

-- how it may end, by how its source was read
abbrev pub WorldEnds : Reading → EndsHow
WorldEnds reading ends.Done after said = RunsJob reading false after said
WorldEnds reading ends.Violations after said = RunsJob reading true after said
WorldEnds reading (ends.BadJob line reason) after said = RefusesJob reading line reason after said
WorldEnds reading ends.ReadFault after said = FailsToRead reading after said
WorldEnds reading ends.NoMemory after said = SaysAlone ends.NoMemory after said ⊎ LeavesJob reading after said
WorldEnds reading ends.Usage after said = ⊥
WorldEnds reading ends.WriteFault after said = ⊥
WorldEnds reading ends.LinkFault after said = ⊥
WorldEnds reading ends.SpawnFault after said = ⊥
WorldEnds reading ends.Stuck after said = ⊥
WorldEnds reading ends.JournalFull after said = ⊥
WorldEnds reading (ends.NotARun node entry) after said = ⊥
WorldEnds reading (ends.Child rank code) after said = ⊥

-- what each of its exit statuses says
abbrev pub WorldMeans : Call → (code : ℕ) → Type 0
WorldMeans call code = CodeMeans call (WorldEnds (read_in call)) (0 ∷ 1 ∷ 3 ∷ 4 ∷ 5 ∷ 8 ∷ []) code

-- where no count of faults rose, a job that could be read was run to its end, or memory ran out
abbrev pub WorldCompletes : Call → (code : ℕ) → Type 0
WorldCompletes call code = HoldsJob call.before.source → IsFaultless call → Contains (0 ∷ 1 ∷ 8 ∷ []) code
