-- How a launch ends.
-- Origin: this project's profile.
use Rattle.std.specs.Prelude.{◌≡◌, ◌⊎◌, ◌<◌, ℕ, List, length, Result, Ok, Err, Vec}
use Rattle.std.specs.Global.{Global}
use Rattle.base_io.specs.Faults.{Rose}
use Rattle.base_io.specs.Spawner.{ChildEnd}
use Rattle.text_trace.specs.declared.output.Output.{Output}
use Rattle.text_job.specs.declared.job.Job.{Job as JobState}
use Rattle.cli_launch.specs.Children.{SpawnerSeen, Spawns}
use Rattle.cli_launch.specs.Outputs.{AreGiven, IsFirstFailing, SomeFailed}
use Rattle.cli_launch.specs.declared.fault.LaunchFault.{LaunchFault}
use Rattle.cli_launch.specs.declared.fault.LaunchFault.TheVariants as faults

-- what a launch is: the job, the port of rank 0, and the bytes that each child is given
pub record Launch : Type 0 where
  pub job : JobState
  pub port : ℕ
  pub input : List ℕ

-- these are the ends of the children that it started, all of which it finished
abbrev pub HasEnds : Launch → (before after : SpawnerSeen) → List ChildEnd → Type 0
HasEnds launch before after ends =
    Spawns launch.job.settings.nodes launch.port launch.input before after (length ends) ends

-- a child of each node was started and finished, and gave an output of its node
pub record GivesOutputs (launch : Launch) (before after : SpawnerSeen) (outputs : List Output) : Type 0 where
  pub ends : List ChildEnd
  pub spawned : HasEnds launch before after ends
  pub all : length ends ≡ launch.job.settings.nodes
  pub given : AreGiven launch.job ends outputs

-- a child of each node was started and finished, no finish failed, and this is the first child that failed
pub record LosesChild (launch : Launch) (before after : SpawnerSeen) (rank code : ℕ) : Type 0 where
  pub ends : List ChildEnd
  pub spawned : HasEnds launch before after ends
  pub all : length ends ≡ launch.job.settings.nodes
  pub finished : SomeFailed ends → ⊥
  pub first : IsFirstFailing launch.job ends rank code

-- a child wasn't started, or a finish failed; those that were started were finished
pub record FailsToSpawn (launch : Launch) (before after : SpawnerSeen) : Type 0 where
  pub ends : List ChildEnd
  pub spawned : HasEnds launch before after ends
  pub failed : (length ends < launch.job.settings.nodes) ⊎ SomeFailed ends
  pub rose : Rose before.faults after.faults

-- memory ran out, before anything was started, or once all that were started were finished
pub record RunsShort (launch : Launch) (before after : SpawnerSeen) : Type 0 where
  pub ends : List ChildEnd
  pub spawned : HasEnds launch before after ends

-- it ended so
abbrev pub EndsLaunch : Launch → (before after : SpawnerSeen) → Result (Vec Output Global) LaunchFault → Type 0
EndsLaunch launch before after (Ok outputs) = GivesOutputs launch before after outputs.items
EndsLaunch launch before after (Err (faults.Child rank code)) = LosesChild launch before after rank code
EndsLaunch launch before after (Err faults.SpawnFault) = FailsToSpawn launch before after
EndsLaunch launch before after (Err faults.NoMemory) = (after ≡ before) ⊎ RunsShort launch before after
