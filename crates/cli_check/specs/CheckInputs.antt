-- The input of a check: the text of a job, and behind it what each of its nodes wrote.
-- Origin: this project's profile.
use Rattle.std.specs.Prelude.{◌≡◌, ◌⊎◌, ◌≤◌, ◌<◌, ◌^◌, ℕ, zero, suc, ◌+◌, ◌-◌, ◌==◌, nat_lt, if◌then◌else◌}
use Rattle.std.specs.Prelude.{List, [], ◌∷◌, ◌++◌, length, take, drop, map, count_by, All}
use Rattle.std.specs.Prelude.{Option, Result, Ok, Err, Vec}
use Rattle.std.specs.Global.{Global}
use Rattle.std.specs.List.{flat_map}
use Rattle.std.specs.Io.KnownBytes.{Consumes, IsAtEnd}
use Rattle.base_io.specs.Faults.{Rose}
use Rattle.text_trace.specs.TraceReading.{BadLine as BadTraceLine}
use Rattle.text_trace.specs.OutputText.{IsOutput, output_text}
use Rattle.text_trace.specs.OutputReading.{output_at}
use Rattle.text_trace.specs.LineRefusals.{Means}
use Rattle.text_trace.specs.OutputRefusals.{output_kind}
use Rattle.text_trace.specs.declared.fault.TraceFault.{TraceFault}
use Rattle.text_trace.specs.declared.fault.TraceFault.TheVariants as tracefaults
use Rattle.text_trace.specs.declared.output.Output.{Output}
use Rattle.text_trace.specs.declared.output.Wanted.{Wanted}
use Rattle.text_trace.specs.declared.trace.Trace.{Trace}
use Rattle.text_job.specs.JobReading.{BadLine, prefix_of}
use Rattle.text_job.specs.JobText.{BeginsWith, IsJob, job_text}
use Rattle.text_job.specs.Refusals.{PrefixMeans}
use Rattle.base_text.specs.declared.why.LineWhy.{LineWhy}
use Rattle.base_text.specs.declared.why.LineWhy.TheVariants as why
use Rattle.text_job.specs.declared.job.Job.{Job as JobState}
use Rattle.cli_check.specs.declared.input.InputFault.{InputFault}
use Rattle.cli_check.specs.declared.input.InputFault.TheVariants as faults
use Rattle.base_io.specs.declared.spawner.TheConstants.{MAX_OUTPUT}
use Rattle.text_job.specs.declared.reading.TheConstants.{MAX_JOB_BYTES}

-- ---- the text

-- the most bytes of an input
abbrev pub input_limit : ℕ
input_limit = MAX_OUTPUT

-- the node of this rank of the job, as that whose output is wanted
abbrev pub wanted_of : JobState → (rank : ℕ) → Wanted
wanted_of job rank = record {
  version = job.settings.version;
  threads = job.settings.threads;
  job = job.settings.job;
  rank = rank;
}

-- they are outputs of the nodes of the job from this rank on
abbrev pub AreOutputs : JobState → (rank : ℕ) → List Output → Type 0
AreOutputs job rank [] = Unit {0}
AreOutputs job rank (output ∷ outputs) = IsOutput (wanted_of job rank) output × AreOutputs job (rank + 1) outputs

-- their texts, one after the other
abbrev pub outputs_text : (version : ℕ) → List Output → List ℕ
outputs_text version outputs = flat_map (output_text version) outputs

-- the bytes are the text of the job, and behind it those of an output of each of its nodes, in rising order of ranks
pub record InputText (job : JobState) (outputs : List Output) (bytes : List ℕ) : Type 0 where
  pub is_job : IsJob job
  pub short : length (job_text job) ≤ MAX_JOB_BYTES
  pub nodes : length outputs ≡ job.settings.nodes
  pub are : AreOutputs job 0 outputs
  pub text : bytes ≡ job_text job ++ outputs_text job.settings.version outputs
  pub within : length bytes ≤ input_limit

-- they are the text of no job and outputs of its nodes
abbrev pub IsNoInput : List ℕ → Type 0
IsNoInput bytes = (job : JobState) (outputs : List Output) → InputText job outputs bytes → ⊥

-- the traces of outputs
abbrev pub traces_in : List Output → List Trace
traces_in outputs = map (λ output. output.trace) outputs

-- ---- reading it: the first bad line, and the first reason that applies to it

-- how many lines end in the bytes
abbrev pub lines_in : List ℕ → ℕ
lines_in bytes = count_by (λ byte. byte == 10) bytes

-- a bad line of an output behind these bytes, counted over the whole input
abbrev pub bad_behind : List ℕ → BadTraceLine → BadLine
bad_behind before bad = record { line = lines_in before + bad.line; why = bad.why }

-- outputs, and where in the bytes they end
abbrev pub OutputsRead : Type 0
OutputsRead = Result (List Output × ℕ) BadLine

-- outputs that were read before those that are read
abbrev pub with_outputs : List Output → OutputsRead → OutputsRead
with_outputs outputs (Ok read) = Ok (outputs ++ read.0, read.1)
with_outputs outputs (Err bad) = Err bad

-- an output was read at this place of the bytes, and more are from where it ends on; or not
abbrev pub after_output : (bytes : List ℕ) → (at : ℕ) → (more : ℕ → OutputsRead)
    → Result (Output × List ℕ) BadTraceLine → OutputsRead
after_output bytes at more (Ok read) = with_outputs (read.0 ∷ []) (more (length bytes - length read.1))
after_output bytes at more (Err bad) = Err (bad_behind (take at bytes) bad)

-- the outputs of so many nodes from this rank on, which begin at this place of the bytes, and where they end
unfoldable pub outputs_at : JobState → (bytes : List ℕ) → (at rank count : ℕ) → OutputsRead
outputs_at job bytes at rank zero = Ok ([], at)
outputs_at job bytes at rank (suc count) =
    after_output bytes at (λ next. outputs_at job bytes next (rank + 1) count)
    (output_at (wanted_of job rank) (drop at bytes))

-- the job and the outputs, where no byte stands behind them
abbrev pub all_of : JobState → (bytes : List ℕ) → OutputsRead → Result (JobState × List Output) BadLine
all_of job bytes (Ok read) =
    if nat_lt read.1 (length bytes) then Err (record { line = lines_in (take read.1 bytes) + 1; why = why.After })
    else Ok (job, read.0)
all_of job bytes (Err bad) = Err bad

-- the job's text at the beginning is bad at this line
pub record IsBadPrefix (bytes : List ℕ) (line : ℕ) (reason : LineWhy) : Type 0 where
  pub read : prefix_of bytes ≡ Err (record { line = line; why = reason })
  pub means : PrefixMeans bytes line reason

-- where outputs are read: of the nodes of a job, from this place of the bytes on
pub record OutputsOf : Type 0 where
  pub job : JobState
  pub bytes : List ℕ
  pub from : ℕ

-- how many lines of the bytes stand before the rest
abbrev pub lines_until : (bytes rest : List ℕ) → ℕ
lines_until bytes rest = lines_in (take (length bytes - length rest) bytes)

-- outputs of the first nodes stand there, and behind them the bytes are refused as an output of the next node, by this
-- line of it for this reason (`Means` of `text_trace`)
pub record IsBadOutput (place : OutputsOf) (line : ℕ) (reason : LineWhy) : Type 0 where
  pub outputs : List Output
  pub fewer : length outputs < place.job.settings.nodes
  pub are : AreOutputs place.job 0 outputs
  pub rest : List ℕ
  pub text : drop place.from place.bytes ≡ outputs_text place.job.settings.version outputs ++ rest
  pub own_line : ℕ
  pub own_reason : LineWhy
  pub means : Means (output_kind (wanted_of place.job (length outputs))) rest own_line own_reason
  pub line_is : line ≡ lines_until place.bytes rest + own_line
  pub reason_is : reason ≡ own_reason

-- outputs of all nodes stand there, and this is the line behind them
pub record HasMoreBehind (place : OutputsOf) (line : ℕ) (reason : LineWhy) : Type 0 where
  pub outputs : List Output
  pub nodes : length outputs ≡ place.job.settings.nodes
  pub are : AreOutputs place.job 0 outputs
  pub rest : List ℕ
  pub text : drop place.from place.bytes ≡ outputs_text place.job.settings.version outputs ++ rest
  pub some : rest ≡ [] → ⊥
  pub line_is : line ≡ lines_until place.bytes rest + 1
  pub reason_is : reason ≡ why.After

-- what is meant of a line behind the text of a job
pub record IsMeantBehind (bytes : List ℕ) (line : ℕ) (reason : LineWhy) : Type 0 where
  pub job : JobState
  pub size : ℕ
  pub prefix : BeginsWith job size bytes
  pub means : IsBadOutput (record { job = job; bytes = bytes; from = size }) line reason
      ⊎ HasMoreBehind (record { job = job; bytes = bytes; from = size }) line reason

-- what a refusal of an input at a line means, apart from the reader
abbrev pub InputMeans : List ℕ → (line : ℕ) → LineWhy → Type 0
InputMeans bytes line reason = PrefixMeans bytes line reason ⊎ IsMeantBehind bytes line reason

-- the bytes begin with a job's text, and an output behind it is bad at this line, or it is a line behind all outputs
pub record IsBadBehind (bytes : List ℕ) (line : ℕ) (reason : LineWhy) : Type 0 where
  pub job : JobState
  pub size : ℕ
  pub prefix : BeginsWith job size bytes
  pub read : all_of job bytes (outputs_at job bytes size 0 job.settings.nodes)
      ≡ Err (record { line = line; why = reason })

-- ---- what the readers return

-- each trace's entries are of threads of the job, and they are fewer than 2^32
pub record IsTraceOf (job : JobState) (trace : Trace) : Type 0 where
  pub threads : All (λ entry. entry.thread < job.settings.threads) trace.entries
  pub few : length trace.entries < 2 ^ 32

-- so of outputs
abbrev pub HaveTraces : JobState → List Output → Type 0
HaveTraces job outputs = All (λ output. IsTraceOf job output.trace) outputs

-- the fault of an output behind these bytes
abbrev pub fault_behind : List ℕ → TraceFault → InputFault
fault_behind before (tracefaults.Bad line reason) = faults.Bad (lines_in before + line) reason
fault_behind before tracefaults.NoMemory = faults.NoMemory

-- they are outputs of all its nodes, which stand there, before the rest
pub record StandThere (place : OutputsOf) (outputs : List Output) (rest : List ℕ) : Type 0 where
  pub nodes : length outputs ≡ place.job.settings.nodes
  pub are : AreOutputs place.job 0 outputs
  pub text : drop place.from place.bytes ≡ outputs_text place.job.settings.version outputs ++ rest

-- these were read, and they are the only ones that stand there
pub record AreRead (place : OutputsOf) (outputs : List Output) (end : ℕ) : Type 0 where
  pub read : outputs_at place.job place.bytes place.from 0 place.job.settings.nodes ≡ Ok (outputs, end)
  pub there : StandThere place outputs (drop end place.bytes)
  pub only : (others : List Output) (rest : List ℕ) → StandThere place others rest → others ≡ outputs
  pub traces : HaveTraces place.job outputs
  pub within : end ≤ length place.bytes

-- none were read, by this line, for this reason, and none stand there
pub record AreUnread (place : OutputsOf) (line : ℕ) (reason : LineWhy) : Type 0 where
  pub read : outputs_at place.job place.bytes place.from 0 place.job.settings.nodes
      ≡ Err (record { line = line; why = reason })
  pub means : IsBadOutput place line reason
  pub none : (others : List Output) (rest : List ℕ) → StandThere place others rest → ⊥

-- outputs were read, or why not
abbrev pub ReadsOutputs : OutputsOf → Result (Vec Output Global × ℕ) InputFault → Type 0
ReadsOutputs place (Ok read) = AreRead place read.0.items read.1
ReadsOutputs place (Err (faults.Bad line reason)) = AreUnread place line reason
ReadsOutputs place (Err faults.ReadFault) = ⊥
ReadsOutputs place (Err faults.NoMemory) = Unit {0}

-- the bytes are an input, this one and no other, and none of their lines is refused
pub record IsInput (bytes : List ℕ) (job : JobState) (outputs : List Output) : Type 0 where
  pub unrefused : (line : ℕ) (reason : LineWhy) → InputMeans bytes line reason → ⊥
  pub text : InputText job outputs bytes
  pub one : (other : JobState) (others : List Output) → InputText other others bytes
      → (other ≡ job) × (others ≡ outputs)
  pub traces : HaveTraces job outputs

-- the bytes are none, by this line, for this reason, and by no other, and aren't too many
pub record IsBadInput (bytes : List ℕ) (line : ℕ) (reason : LineWhy) : Type 0 where
  pub within : length bytes ≤ input_limit
  pub line_is : IsBadPrefix bytes line reason ⊎ IsBadBehind bytes line reason
  pub means : InputMeans bytes line reason
  pub only : (other : ℕ) (why : LineWhy) → InputMeans bytes other why → (line ≡ other) × (reason ≡ why)
  pub none : IsNoInput bytes

-- why bytes weren't read as an input; reading them, the source doesn't fail
abbrev pub IsRefused : List ℕ → InputFault → Type 0
IsRefused bytes (faults.Bad line reason) = IsBadInput bytes line reason
IsRefused bytes faults.ReadFault = ⊥
IsRefused bytes faults.NoMemory = Unit {0}

-- a source was read to its end, and its bytes are this input, and no other
pub record TakesInput (old new : Option (List ℕ)) (job : JobState) (outputs : List Output) : Type 0 where
  pub bytes : List ℕ
  pub read : Consumes old new bytes
  pub ended : IsAtEnd new
  pub is_input : IsInput bytes job outputs

-- more bytes were read than an input may have (`input_limit`); or it was read to its end, and its bytes are no input,
-- by this line, for this reason
pub record TakesNone (old new : Option (List ℕ)) (line : ℕ) (reason : LineWhy) : Type 0 where
  pub bytes : List ℕ
  pub read : Consumes old new bytes
  pub none : ((input_limit < length bytes) × (line ≡ 0) × (reason ≡ why.Size))
      ⊎ (IsAtEnd new × IsBadInput bytes line reason)

-- why no input was read from a source: its bytes are none, it failed, or memory ran out
abbrev pub IsUnread : (old new : Option (List ℕ)) → (before after : ℕ) → InputFault → Type 0
IsUnread old new before after (faults.Bad line reason) = TakesNone old new line reason
IsUnread old new before after faults.ReadFault = Rose before after
IsUnread old new before after faults.NoMemory = Unit {0}
