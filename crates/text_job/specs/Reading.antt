-- What the readers of many lines return, beside what reading is.
use Rattle.std.specs.Prelude.{◌≡◌, ℕ, Some, None, Result, Ok, Err}
use Rattle.text_job.specs.declared.fault.JobFault.{JobFault}
use Rattle.text_job.specs.declared.fault.JobFault.TheVariants as faults
use Rattle.base_text.specs.declared.why.LineWhy.{LineWhy}
use Rattle.text_job.specs.declared.job.Head.{Head}
use Rattle.wire_message.specs.declared.pairs.PairCredits.{PairCredits}
use Rattle.text_job.specs.JobReading.{BadLine, pair_why, job_of_head, with_own}

-- a reader of many lines failed by want of memory, or at the bad line of reading
abbrev pub FailsAt : {Y : Type 0} → JobFault → Result Y BadLine → Type 0
FailsAt faults.NoMemory read = Unit {0}
FailsAt (faults.Bad line why) read = read ≡ Err (record { line = line; why = why })

-- what a reader of many lines returned is what reading gives, unless memory ran out
abbrev pub GivesAt : {X Y : Type 0} → (X → Y) → Result X JobFault → Result Y BadLine → Type 0
GivesAt view (Ok x) read = read ≡ Ok (view x)
GivesAt view (Err e) read = FailsAt e read

-- what was read of the text is told, and the text is read on from there; or the first bad line was found
abbrev pub Continues : {X Y : Type 0} → (X → Result Y BadLine) → Result X JobFault → Result Y BadLine → Type 0
Continues more (Ok x) total = total ≡ more x
Continues more (Err e) total = FailsAt e total

-- a pair was added to a head, or there is a reason against it
abbrev pub IsPaired : Head → PairCredits → Result (Head × ℕ) LineWhy → Type 0
IsPaired head pair (Ok x) = (pair_why head.settings.pairs pair ≡ None) × (job_of_head x.0
    ≡ with_own pair (job_of_head head))
IsPaired head pair (Err why) = pair_why head.settings.pairs pair ≡ Some why
