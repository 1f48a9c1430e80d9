-- Reading a job: what commands share that read one.
use Rattle.std.specs.Prelude.{◌≡◌, ◌⊎◌, ℕ, ◌<◌, List, length, Option, Some, Err}
use Rattle.std.specs.Io.KnownBytes.{Consumes, IsAtEnd}
use Rattle.base_io.specs.Faults.{Rose}
use Rattle.text_job.specs.declared.job.Job.{Job as JobState}
use Rattle.text_job.specs.JobText.{JobText}
use Rattle.text_job.specs.Refusals as refusals
use Rattle.text_job.specs.JobReading.{job_of}
use Rattle.base_text.specs.declared.why.LineWhy.{LineWhy}
use Rattle.base_text.specs.declared.why.LineWhy.TheVariants as why
use Rattle.cli_commands.specs.Outsides.{Input, Reading}
use Rattle.cli_commands.specs.HowEnds.{After, EndsHow, SaysAlone}
use Rattle.cli_commands.specs.declared.ending.CommandEnd.TheVariants as ends
use Rattle.text_job.specs.declared.reading.TheConstants.{MAX_JOB_BYTES}

-- a source was read to its end, and its bytes are the text of this job, and of no other
pub record ReadsJob (old new : Option (List ℕ)) (job : JobState) : Type 0 where
  pub bytes : List ℕ
  pub read : Consumes old new bytes
  pub ended : IsAtEnd new
  pub text : JobText job bytes
  pub one : (other : JobState) → JobText other bytes → other ≡ job

-- more bytes than a job's text has: line 0, for their size
abbrev pub IsTooLong : List ℕ → (line : ℕ) → LineWhy → Type 0
IsTooLong bytes line reason = (MAX_JOB_BYTES < length bytes) × (line ≡ 0) × (reason ≡ why.Size)

-- all bytes of a source, which are no job's text: this line is the first bad one, this the first reason that applies
-- to it, and what that means, apart from how a text is read
abbrev pub IsBad : Option (List ℕ) → List ℕ → (line : ℕ) → LineWhy → Type 0
IsBad new bytes line reason =
    IsAtEnd new × (job_of bytes ≡ Err (record { line = line; why = reason })) × refusals.Means bytes line reason
    × ((job : JobState) → JobText job bytes → ⊥)

-- more bytes were read than a job's text may have; or it was read to its end, and its bytes are no job's text, by this
-- line and for this reason
pub record ReadsNoJob (old new : Option (List ℕ)) (line : ℕ) (reason : LineWhy) : Type 0 where
  pub bytes : List ℕ
  pub read : Consumes old new bytes
  pub none : IsTooLong bytes line reason ⊎ IsBad new bytes line reason

-- it gave a job
abbrev pub GivesJob : Reading → JobState → Type 0
GivesJob reading job = ReadsJob reading.before.left reading.after.left job

-- its bytes are no job's text: the status line alone
pub record RefusesJob (reading : Reading) (line : ℕ) (reason : LineWhy) (after : After) (said : List ℕ)
    : Type 0 where
  pub read : ReadsNoJob reading.before.left reading.after.left line reason
  pub alone : SaysAlone (ends.BadJob line reason) after said

-- it failed: the status line alone
pub record FailsToRead (reading : Reading) (after : After) (said : List ℕ) : Type 0 where
  pub rose : Rose reading.before.faults reading.after.faults
  pub alone : SaysAlone ends.ReadFault after said

-- how a command ends that reads a job and was given none: its bytes are no job's text, it failed, or memory ran out
abbrev pub ReadsNone : Reading → EndsHow
ReadsNone reading (ends.BadJob line reason) after said = RefusesJob reading line reason after said
ReadsNone reading ends.ReadFault after said = FailsToRead reading after said
ReadsNone reading ends.NoMemory after said = SaysAlone ends.NoMemory after said
ReadsNone reading ends.Done after said = ⊥
ReadsNone reading ends.Violations after said = ⊥
ReadsNone reading ends.Usage after said = ⊥
ReadsNone reading ends.WriteFault after said = ⊥
ReadsNone reading ends.LinkFault after said = ⊥
ReadsNone reading ends.SpawnFault after said = ⊥
ReadsNone reading ends.Stuck after said = ⊥
ReadsNone reading ends.JournalFull after said = ⊥
ReadsNone reading (ends.NotARun node entry) after said = ⊥
ReadsNone reading (ends.Child rank code) after said = ⊥

-- the bytes that are left are told, and they are the text of some job
pub record HoldsJob (source : Input) : Type 0 where
  pub job : JobState
  pub bytes : List ℕ
  pub told : source.left ≡ Some bytes
  pub text : JobText job bytes
