-- Reading what a node wrote, line by line: the first bad line, and the first reason that applies to it.
-- Origin: this project's profile.
use Rattle.std.specs.Prelude.{◌≡◌, ◌≤◌, ℕ, ◌+◌, List, length, Result, Ok, Err, if◌then◌else◌, codes}
use Rattle.std.specs.Str.{bytes_eq}
use Rattle.base_text.specs.Chains.{◌>>=◌}
use Rattle.text_trace.specs.TraceReading.{BadLine, at_line, line_at, read_line, setting_of, entries_at}
use Rattle.text_trace.specs.TraceRead.{FailsAt}
use Rattle.text_trace.specs.declared.fault.TraceFault.{TraceFault}
use Rattle.text_trace.specs.declared.fault.TraceFault.TheVariants.{Bad, NoMemory}
use Rattle.base_text.specs.declared.why.LineWhy.{LineWhy}
use Rattle.base_text.specs.declared.why.LineWhy.TheVariants.{Form}
use Rattle.text_trace.specs.declared.output.NodeStatus.{NodeStatus}
use Rattle.text_trace.specs.declared.output.NodeStatus.TheVariants as status
use Rattle.text_trace.specs.declared.output.Output.{Output}
use Rattle.text_trace.specs.declared.output.Wanted.{Wanted}

-- the status of a line, without its ending byte
unfoldable pub status_of : List ℕ → Result NodeStatus LineWhy
status_of line =
    if bytes_eq line (codes "status 0 ok") then Ok status.Ok else
    (if bytes_eq line (codes "status 1 violations") then Ok status.Violations else
    (if bytes_eq line (codes "status 6 link-fault") then Ok status.LinkFault else
    (if bytes_eq line (codes "status 9 stuck") then Ok status.Stuck else
    (if bytes_eq line (codes "status 10 journal-full") then Ok status.JournalFull else Err Form))))

-- the status of the line of this number, and the bytes after the line
abbrev pub status_at : (line : ℕ) → List ℕ → Result (NodeStatus × List ℕ) BadLine
status_at line bytes =
    at_line line (line_at bytes >>= λ cut. status_of cut.0 >>= λ ended. Ok (ended, cut.1))

-- the output of the node that is wanted, and the bytes after it: the trace of its job and rank, and the line of a status
unfoldable pub output_at : Wanted → List ℕ → Result (Output × List ℕ) BadLine
output_at wanted bytes =
    read_line 1 (setting_of (codes "trace") wanted.version wanted.version) bytes >>= λ first.
    read_line 2 (setting_of (codes "job") wanted.job wanted.job) first.1 >>= λ job.
    read_line 3 (setting_of (codes "rank") wanted.rank wanted.rank) job.1 >>= λ rank.
    entries_at (length rank.1 + 1) wanted.threads 4 rank.1 >>= λ entries.
    status_at (length entries.0 + 5) entries.1 >>= λ ended.
    Ok (
      record {
        trace = record { job = wanted.job; rank = wanted.rank; entries = entries.0 };
        status = ended.0;
      },
      ended.1,
    )

-- an output was read, of this length: the bytes after it are left
abbrev pub ReadsTo : Output → (len size : ℕ) → Result (Output × List ℕ) BadLine → Type 0
ReadsTo output len size read = (rest : List ℕ) × (read ≡ Ok (output, rest)) × (len + length rest ≡ size)

-- what was read of so many bytes is what reading gives, unless memory ran out
abbrev pub ReadsOutput : (size : ℕ) → Result (Output × ℕ) TraceFault → Result (Output × List ℕ) BadLine → Type 0
ReadsOutput size (Ok found) read = ReadsTo found.0 found.1 size read
ReadsOutput size (Err fault) read = FailsAt fault read

-- this output was read, of this length, unless memory ran out
abbrev pub GivesOutput : Output → (len : ℕ) → Result (Output × ℕ) TraceFault → Type 0
GivesOutput output len (Ok found) = (found.0 ≡ output) × (found.1 ≡ len)
GivesOutput output len (Err NoMemory) = Unit {0}
GivesOutput output len (Err (Bad line why)) = ⊥

-- a bad line is no further than so many bytes
abbrev pub IsNear : (size : ℕ) → TraceFault → Type 0
IsNear size NoMemory = Unit {0}
IsNear size (Bad line why) = line ≤ size + 5
