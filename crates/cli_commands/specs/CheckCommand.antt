-- The command `check`: a job is read, and what each of its nodes wrote, and their traces are checked.
use Rattle.std.specs.Prelude.{◌≡◌, ◌⊎◌, List, [], ◌∷◌, Some, ℕ}
use Rattle.std.specs.List.{Contains}
use Rattle.text_trace.specs.declared.output.Output.{Output}
use Rattle.base_text.specs.declared.why.LineWhy.{LineWhy}
use Rattle.text_job.specs.declared.job.Job.{Job as JobState}
use Rattle.cli_launch.specs.CheckInputs.{InputText, TakesInput, TakesNone, traces_in}
use Rattle.cli_launch.specs.Statuses.{AreOver, IsFirstFailed}
use Rattle.cli_launch.specs.Rejected.{accepted_traces}
use Rattle.cli_launch.specs.TracesRun.{AreARun}
use Rattle.cli_commands.specs.Outsides.{Call, Input, IsFaultless, Reading, read_in}
use Rattle.cli_commands.specs.HowEnds.{After, EndsHow, SaysAlone}
use Rattle.cli_commands.specs.JobReads.{FailsToRead}
use Rattle.cli_commands.specs.Statuses.{CodeMeans}
use Rattle.cli_commands.specs.TracesReports.{TracesEnds}
use Rattle.cli_commands.specs.declared.ending.CommandEnd.{CommandEnd}
use Rattle.cli_commands.specs.declared.ending.CommandEnd.TheVariants as ends

-- a job was read with an output of each of its nodes, in rising order of ranks
abbrev pub GivesInput : Reading → JobState → List Output → Type 0
GivesInput reading job outputs = TakesInput reading.before.left reading.after.left job outputs

-- it was read so, each node ended with status 0 or 1, and the check of their traces ended so
pub record ChecksInput (reading : Reading) (end : CommandEnd) (after : After) (said : List ℕ) : Type 0 where
  pub job : JobState
  pub outputs : List Output
  pub read : GivesInput reading job outputs
  pub over : AreOver outputs
  pub checked : TracesEnds job (traces_in outputs) end after said

-- it was read so, a node ended with another status, and this is the one of the smallest rank: the status line alone
pub record NamesChild (reading : Reading) (rank code : ℕ) (after : After) (said : List ℕ) : Type 0 where
  pub job : JobState
  pub outputs : List Output
  pub read : GivesInput reading job outputs
  pub failed : IsFirstFailed outputs rank code
  pub alone : SaysAlone (ends.Child rank code) after said

-- the bytes are no such input: the status line alone
pub record RefusesInput (reading : Reading) (line : ℕ) (reason : LineWhy) (after : After) (said : List ℕ) : Type 0 where
  pub read : TakesNone reading.before.left reading.after.left line reason
  pub alone : SaysAlone (ends.BadJob line reason) after said

-- how it may end, by how its source was read
abbrev pub CheckEnds : Reading → EndsHow
CheckEnds reading ends.Done after said = ChecksInput reading ends.Done after said
CheckEnds reading ends.Violations after said = ChecksInput reading ends.Violations after said
CheckEnds reading (ends.BadJob line reason) after said = RefusesInput reading line reason after said
CheckEnds reading ends.ReadFault after said = FailsToRead reading after said
CheckEnds reading ends.NoMemory after said =
    SaysAlone ends.NoMemory after said ⊎ ChecksInput reading ends.NoMemory after said
CheckEnds reading (ends.NotARun node entry) after said = ChecksInput reading (ends.NotARun node entry) after said
CheckEnds reading (ends.Child rank code) after said = NamesChild reading rank code after said
CheckEnds reading ends.Usage after said = ⊥
CheckEnds reading ends.WriteFault after said = ⊥
CheckEnds reading ends.LinkFault after said = ⊥
CheckEnds reading ends.SpawnFault after said = ⊥
CheckEnds reading ends.Stuck after said = ⊥
CheckEnds reading ends.JournalFull after said = ⊥

-- what each of its exit statuses says
abbrev pub CheckMeans : Call → (code : ℕ) → Type 0
CheckMeans call code = CodeMeans call (CheckEnds (read_in call)) (0 ∷ 1 ∷ 3 ∷ 4 ∷ 5 ∷ 8 ∷ 11 ∷ 12 ∷ []) code

-- the bytes that are left are told, and they are such an input
pub record HoldsInput (source : Input) : Type 0 where
  pub job : JobState
  pub outputs : List Output
  pub bytes : List ℕ
  pub told : source.left ≡ Some bytes
  pub text : InputText job outputs bytes

-- moreover each of its nodes ended with status 0 or 1, and their traces are a run, without the bytes that their nodes
-- refuse
pub record HoldsRun (source : Input) : Type 0 where
  pub holds : HoldsInput source
  pub over : AreOver holds.outputs
  pub run : AreARun holds.job (accepted_traces holds.job (traces_in holds.outputs))

-- where no count of faults rose, such an input was judged, or memory ran out; one whose traces are a run was judged to
-- be so, or memory ran out
pub record CheckCompletes (call : Call) (code : ℕ) : Type 0 where
  pub judged : HoldsInput call.before.source → IsFaultless call → Contains (0 ∷ 1 ∷ 8 ∷ 11 ∷ 12 ∷ []) code
  pub is_run : HoldsRun call.before.source → IsFaultless call → Contains (0 ∷ 1 ∷ 8 ∷ []) code
