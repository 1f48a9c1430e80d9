-- What the children of a launch gave.
-- Origin: this project's profile.
use Rattle.std.specs.Prelude.{◌≡◌, ◌<◌, ℕ, List, length, Result, Ok, Err, Some, slice_get, IsSomeAnd, true, Vec}
use Rattle.std.specs.Global.{Global}
use Rattle.std.specs.Option.{ForSome}
use Rattle.base_io.specs.Spawner.{ChildEnd}
use Rattle.base_io.specs.declared.spawner.Finished.TheVariants as finished
use Rattle.text_trace.specs.OutputText.{IsOutput, output_text, status_code}
use Rattle.text_trace.specs.declared.output.Output.{Output}
use Rattle.text_job.specs.declared.job.Job.{Job as JobState}
use Rattle.cli_check.specs.CheckInputs.{wanted_of}
use Rattle.cli_check.specs.Statuses.{is_over}
use Rattle.cli_launch.specs.declared.fault.LaunchFault.{LaunchFault}
use Rattle.cli_launch.specs.declared.fault.LaunchFault.TheVariants as faults

-- the bytes that a child gave are the text of this output of its node, and the child ended with the status in it, which
-- is 0 or 1
pub record GivesOutput (job : JobState) (end : ChildEnd) (output : Output) : Type 0 where
  pub is_output : IsOutput (wanted_of job end.rank) output
  pub text : end.output ≡ output_text job.settings.version output
  pub over : is_over output.status ≡ true
  pub ended : end.answer ≡ finished.Ended (status_code output.status)

-- it ended with this status, and gave no such output
pub record FailsWith (job : JobState) (end : ChildEnd) (code : ℕ) : Type 0 where
  pub ended : end.answer ≡ finished.Ended code
  pub none : (output : Output) → GivesOutput job end output → ⊥

-- what it gave, or why that is none
abbrev pub GivesOrNot : JobState → ChildEnd → Result Output LaunchFault → Type 0
GivesOrNot job end (Ok output) = GivesOutput job end output
GivesOrNot job end (Err (faults.Child rank code)) = (rank ≡ end.rank) × FailsWith job end code
GivesOrNot job end (Err faults.SpawnFault) = end.answer ≡ finished.Failed
GivesOrNot job end (Err faults.NoMemory) = Unit {0}

-- each child gave the output at its place
pub record AreGiven (job : JobState) (ends : List ChildEnd) (outputs : List Output) : Type 0 where
  pub count : length outputs ≡ length ends
  pub each : (rank : ℕ) → ForSome (slice_get ends rank) (λ end.
      IsSomeAnd (slice_get outputs rank) (λ output. GivesOutput job end output))

-- the child of this rank failed with this status, and it is the one of the smallest rank that gave no output
pub record IsFirstFailing (job : JobState) (ends : List ChildEnd) (rank code : ℕ) : Type 0 where
  pub end : ChildEnd
  pub at : slice_get ends rank ≡ Some end
  pub fails : FailsWith job end code
  pub first : (other : ℕ) → other < rank
      → ForSome (slice_get ends other) (λ end. (output : Output) × GivesOutput job end output)

-- a finish among these failed
pub record SomeFailed (ends : List ChildEnd) : Type 0 where
  pub rank : ℕ
  pub end : ChildEnd
  pub at : slice_get ends rank ≡ Some end
  pub failed : end.answer ≡ finished.Failed

-- what they gave, or why one of them gave none
abbrev pub GiveOrNot : JobState → List ChildEnd → Result (Vec Output Global) LaunchFault → Type 0
GiveOrNot job ends (Ok outputs) = AreGiven job ends outputs.items
GiveOrNot job ends (Err (faults.Child rank code)) = IsFirstFailing job ends rank code
GiveOrNot job ends (Err faults.SpawnFault) = SomeFailed ends
GiveOrNot job ends (Err faults.NoMemory) = Unit {0}
