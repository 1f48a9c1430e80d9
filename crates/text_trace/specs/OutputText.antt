-- The one text of what a node writes: its trace, and the line of its status.
-- Origin: this project's profile.
use Rattle.std.specs.Prelude.{◌≡◌, ℕ, List, [], ◌∷◌, ◌++◌, length, codes}
use Rattle.text_trace.specs.TraceText.{IsTrace, trace_text}
use Rattle.text_trace.specs.declared.output.NodeStatus.{NodeStatus}
use Rattle.text_trace.specs.declared.output.NodeStatus.TheVariants as status
use Rattle.text_trace.specs.declared.output.Output.{Output}
use Rattle.text_trace.specs.declared.output.Wanted.{Wanted}

-- the exit status
abbrev pub status_code : NodeStatus → ℕ
status_code status.Ok = 0
status_code status.Violations = 1
status_code status.LinkFault = 6
status_code status.Stuck = 9
status_code status.JournalFull = 10

-- the line of a status, without its ending byte
abbrev pub status_text : NodeStatus → List ℕ
status_text status.Ok = codes "status 0 ok"
status_text status.Violations = codes "status 1 violations"
status_text status.LinkFault = codes "status 6 link-fault"
status_text status.Stuck = codes "status 9 stuck"
status_text status.JournalFull = codes "status 10 journal-full"

-- the text of an output
abbrev pub output_text : (version : ℕ) → Output → List ℕ
output_text version output = trace_text version output.trace ++ (status_text output.status ++ 10 ∷ [])

-- an output of the node that is wanted
pub record IsOutput (wanted : Wanted) (output : Output) : Type 0 where
  pub is_trace : IsTrace wanted.threads output.trace
  pub job_is : output.trace.job ≡ wanted.job
  pub rank_is : output.trace.rank ≡ wanted.rank

-- the bytes begin with the text of that output, which has this length
pub record OutputBegins (wanted : Wanted) (bytes : List ℕ) (output : Output) (len : ℕ) : Type 0 where
  pub is_output : IsOutput wanted output
  pub rest : List ℕ
  pub text : bytes ≡ output_text wanted.version output ++ rest
  pub size : len ≡ length (output_text wanted.version output)
