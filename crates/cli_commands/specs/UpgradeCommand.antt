-- The command `upgrade`: a job is read, and written with datagrams of version 2.
use Rattle.std.specs.Prelude.{◌≡◌, List, [], ◌∷◌, ℕ}
use Rattle.std.specs.List.{Contains}
use Rattle.text_job.specs.declared.job.Job.{Job as JobState}
use Rattle.text_job.specs.JobText.{JobText}
use Rattle.sim_drill.specs.RunText.{is_violated, run_lines}
use Rattle.sim_versions.specs.Upgraded.{in_version}
use Rattle.cli_commands.specs.Outsides.{Call, IsFaultless, Reading, read_in}
use Rattle.cli_commands.specs.Commands.{end_of}
use Rattle.cli_commands.specs.HowEnds.{After, EndsHow, SaysAlone, said_last}
use Rattle.cli_commands.specs.JobReads.{FailsToRead, GivesJob, HoldsJob, RefusesJob}
use Rattle.cli_commands.specs.Statuses.{CodeMeans}
use Rattle.cli_commands.specs.declared.ending.CommandEnd.TheVariants as ends

-- what `world` says of a job whose run comes to its end
abbrev pub world_says : JobState → List ℕ
world_says job = said_last (run_lines job) (end_of (is_violated job))

-- a job was read, and this is the text of the same job with datagrams of version 2, without a status line. `world` says
-- the same of both
pub record UpgradesJob (reading : Reading) (after : After) (said : List ℕ) : Type 0 where
  pub job : JobState
  pub read : GivesJob reading job
  pub text : JobText (in_version job 2) said
  pub same : world_says (in_version job 2) ≡ world_says job
  pub nothing_given : after.none

-- how it may end, by how its source was read
abbrev pub UpgradeEnds : Reading → EndsHow
UpgradeEnds reading ends.Done after said = UpgradesJob reading after said
UpgradeEnds reading (ends.BadJob line reason) after said = RefusesJob reading line reason after said
UpgradeEnds reading ends.ReadFault after said = FailsToRead reading after said
UpgradeEnds reading ends.NoMemory after said = SaysAlone ends.NoMemory after said
UpgradeEnds reading ends.Violations after said = ⊥
UpgradeEnds reading ends.Usage after said = ⊥
UpgradeEnds reading ends.WriteFault after said = ⊥
UpgradeEnds reading ends.LinkFault after said = ⊥
UpgradeEnds reading ends.SpawnFault after said = ⊥
UpgradeEnds reading ends.Stuck after said = ⊥
UpgradeEnds reading ends.JournalFull after said = ⊥
UpgradeEnds reading (ends.NotARun node entry) after said = ⊥
UpgradeEnds reading (ends.Child rank code) after said = ⊥

-- what each of its exit statuses says
abbrev pub UpgradeMeans : Call → (code : ℕ) → Type 0
UpgradeMeans call code = CodeMeans call (UpgradeEnds (read_in call)) (0 ∷ 3 ∷ 4 ∷ 5 ∷ 8 ∷ []) code

-- where no count of faults rose, a job that could be read was written, or memory ran out
abbrev pub UpgradeCompletes : Call → (code : ℕ) → Type 0
UpgradeCompletes call code = HoldsJob call.before.source → IsFaultless call → Contains (0 ∷ 8 ∷ []) code
