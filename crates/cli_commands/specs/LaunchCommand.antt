-- The command `launch`: a job is read, a child is started for each of its nodes, and the traces that they give are
-- checked.
use Rattle.std.specs.Prelude.{◌≡◌, ◌⊎◌, ℕ, List, [], ◌∷◌, ◌++◌, Some, true, false}
use Rattle.std.specs.List.{Contains}
use Rattle.base_io.specs.Faults.{Rose}
use Rattle.base_io.specs.Spawner.{ChildEnd, SpawnTold}
use Rattle.text_trace.specs.declared.output.Output.{Output}
use Rattle.text_job.specs.declared.job.Job.{Job as JobState}
use Rattle.cli_launch.specs.CheckInputs.{traces_in}
use Rattle.cli_launch.specs.Rejected.{accepted_traces}
use Rattle.cli_launch.specs.TracesRun.{AreARun}
use Rattle.cli_launch.specs.Children.{NoneFinished}
use Rattle.cli_launch.specs.LaunchEnds.{FailsToSpawn, GivesOutputs, Launch, LosesChild, RunsShort}
use Rattle.cli_launch.specs.Outputs.{AreGiven}
use Rattle.cli_commands.specs.Outsides.{Call, Input, IsFaultless, Reading, Spawning, read_in, spawning_in}
use Rattle.cli_commands.specs.HowEnds.{After, EndsHow, SaysAlone}
use Rattle.cli_commands.specs.JobReads.{FailsToRead, GivesJob, HoldsJob, RefusesJob}
use Rattle.cli_commands.specs.Ports.{has_ports}
use Rattle.cli_commands.specs.Statuses.{CodeMeans}
use Rattle.cli_commands.specs.TracesReports.{TracesEnds}
use Rattle.cli_commands.specs.declared.ending.CommandEnd.{CommandEnd}
use Rattle.cli_commands.specs.declared.ending.CommandEnd.TheVariants as ends

-- a job was read that has a port for each of its nodes
pub record ReadsLaunch (port : ℕ) (reading : Reading) : Type 0 where
  pub job : JobState
  pub read : GivesJob reading job
  pub ports : has_ports port job.settings.nodes ≡ true

-- the launch of that job: each child is given the bytes that were read
abbrev pub launch_of : (port : ℕ) (reading : Reading) → ReadsLaunch port reading → Launch
launch_of port reading reads = record { job = reads.job; port = port; input = reads.read.bytes }

-- the spawner wasn't used
abbrev pub IsUnused : Spawning → Type 0
IsUnused spawning = spawning.after ≡ spawning.before

-- a job was read, and not each of its nodes has a port: the status line alone
pub record HasNoPorts (port : ℕ) (reading : Reading) (spawning : Spawning) (after : After) (said : List ℕ)
    : Type 0 where
  pub job : JobState
  pub read : GivesJob reading job
  pub no_ports : has_ports port job.settings.nodes ≡ false
  pub unused : IsUnused spawning
  pub alone : SaysAlone ends.Usage after said

-- it was launched, each child gave an output of its node, with status 0 or 1, and the check of their traces ended so
pub record ChecksLaunch (port : ℕ) (reading : Reading) (spawning : Spawning) (end : CommandEnd) (after : After)
    (said : List ℕ) : Type 0 where
  pub reads : ReadsLaunch port reading
  pub outputs : List Output
  pub gives : GivesOutputs (launch_of port reading reads) spawning.before spawning.after outputs
  pub checked : TracesEnds reads.job (traces_in outputs) end after said

-- it was launched, no start and no finish failed, and this is the first child that failed: the status line alone
pub record NamesLost (port : ℕ) (reading : Reading) (spawning : Spawning) (rank code : ℕ) (after : After)
    (said : List ℕ) : Type 0 where
  pub reads : ReadsLaunch port reading
  pub loses : LosesChild (launch_of port reading reads) spawning.before spawning.after rank code
  pub alone : SaysAlone (ends.Child rank code) after said

-- a start or a finish failed: the status line alone
pub record FailsToLaunch (port : ℕ) (reading : Reading) (spawning : Spawning) (after : After) (said : List ℕ)
    : Type 0 where
  pub reads : ReadsLaunch port reading
  pub fails : FailsToSpawn (launch_of port reading reads) spawning.before spawning.after
  pub alone : SaysAlone ends.SpawnFault after said

-- memory ran out in the launch: the status line alone
pub record ShortOfMemory (port : ℕ) (reading : Reading) (spawning : Spawning) (after : After) (said : List ℕ)
    : Type 0 where
  pub reads : ReadsLaunch port reading
  pub short : RunsShort (launch_of port reading reads) spawning.before spawning.after
  pub alone : SaysAlone ends.NoMemory after said

-- how it may end, by how its source was read, and by what is seen of its spawner before and after
abbrev pub LaunchEnds : (port : ℕ) → Reading → Spawning → EndsHow
LaunchEnds port reading spawning ends.Done after said = ChecksLaunch port reading spawning ends.Done after said
LaunchEnds port reading spawning ends.Violations after said =
    ChecksLaunch port reading spawning ends.Violations after said
LaunchEnds port reading spawning ends.Usage after said = HasNoPorts port reading spawning after said
LaunchEnds port reading spawning (ends.BadJob line reason) after said =
    RefusesJob reading line reason after said × IsUnused spawning
LaunchEnds port reading spawning ends.ReadFault after said = FailsToRead reading after said × IsUnused spawning
LaunchEnds port reading spawning ends.WriteFault after said = ⊥
LaunchEnds port reading spawning ends.LinkFault after said = ⊥
LaunchEnds port reading spawning ends.SpawnFault after said = FailsToLaunch port reading spawning after said
LaunchEnds port reading spawning ends.NoMemory after said =
    (SaysAlone ends.NoMemory after said × IsUnused spawning)
    ⊎ (ShortOfMemory port reading spawning after said ⊎ ChecksLaunch port reading spawning ends.NoMemory after said)
LaunchEnds port reading spawning ends.Stuck after said = ⊥
LaunchEnds port reading spawning ends.JournalFull after said = ⊥
LaunchEnds port reading spawning (ends.NotARun node entry) after said =
    ChecksLaunch port reading spawning (ends.NotARun node entry) after said
LaunchEnds port reading spawning (ends.Child rank code) after said =
    NamesLost port reading spawning rank code after said

-- what each of its exit statuses says
abbrev pub LaunchMeans : Call → (port code : ℕ) → Type 0
LaunchMeans call port code =
    CodeMeans call (LaunchEnds port (read_in call) (spawning_in call))
    (0 ∷ 1 ∷ 2 ∷ 3 ∷ 4 ∷ 5 ∷ 7 ∷ 8 ∷ 11 ∷ 12 ∷ []) code

-- the bytes that are left are told, and they are the text of some job that has a port for each of its nodes
pub record HoldsLaunch (port : ℕ) (source : Input) : Type 0 where
  pub holds : HoldsJob source
  pub ports : has_ports port holds.job.settings.nodes ≡ true

-- the spawner told no finish of the ranks of the job, and after the call it tells, behind the ends told before, those
-- of children that each gave an output of its node, with status 0 or 1; and the traces in these are a run, without the
-- bytes that their nodes refuse
pub record TellsRun (job : JobState) (spawning : Spawning) : Type 0 where
  pub before : SpawnTold
  pub before_is : spawning.before.told ≡ Some before
  pub unfinished : NoneFinished job.settings.nodes before
  pub after : SpawnTold
  pub after_is : spawning.after.told ≡ Some after
  pub ends : List ChildEnd
  pub ended : after.ended ≡ before.ended ++ ends
  pub outputs : List Output
  pub given : AreGiven job ends outputs
  pub run : AreARun job (accepted_traces job (traces_in outputs))

-- where no count of faults rose, the nodes of a job that could be read were judged, or memory ran out; those whose
-- traces are a run were judged to be so, or memory ran out
pub record LaunchCompletes (call : Call) (port code : ℕ) : Type 0 where
  pub judged : HoldsLaunch port call.before.source → IsFaultless call
      → (Rose call.before.spawner.faults call.after.spawner.faults → ⊥)
      → Contains (0 ∷ 1 ∷ 8 ∷ 11 ∷ 12 ∷ []) code
  pub is_run : (holds : HoldsLaunch port call.before.source) → TellsRun holds.holds.job (spawning_in call)
      → IsFaultless call → (Rose call.before.spawner.faults call.after.spawner.faults → ⊥)
      → Contains (0 ∷ 1 ∷ 8 ∷ []) code
