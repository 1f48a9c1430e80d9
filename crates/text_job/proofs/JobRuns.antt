-- A job, as it is read.
use Rattle.std.proofs.Common.{◌≡◌, ℕ, ◌-◌, ◌<◌, ◌≤◌, List, length, Result, Ok, Err, true, false, eqb, refl, ap}
use Rattle.std.proofs.lemmas.Bool.{lt-ltb, le-ltb}
use Rattle.text_job.specs.JobReading.{BadLine, LeadingJob, start, leading_job, of_prefix, alone, within_size, read}
use Rattle.text_job.specs.JobReading.{job_of}
use Rattle.text_job.specs.JobReading.{prefix_of}
use Rattle.base_text.specs.Chains.{◌>>=◌}
use Rattle.text_job.specs.Reading.{FailsAt}
use Rattle.text_job.specs.declared.fault.JobFault.{JobFault}
use Rattle.text_job.specs.declared.fault.JobFault.TheVariants as faults
use Rattle.base_text.specs.declared.why.LineWhy.TheVariants.{Size, After}
use Rattle.text_job.specs.declared.job.Job.{Job}
use Rattle.base_text.proofs.Prefixes.{cond_yes, cond_no}
use Rattle.text_job.specs.declared.reading.TheConstants.{MAX_JOB_BYTES}

-- too many bytes
pub too_long : (bytes : List ℕ) → MAX_JOB_BYTES < length bytes → job_of bytes ≡ Err (record { line = 0; why = Size })
unfolding job_of
too_long bytes lt = cond_yes _ _ _ (lt-ltb MAX_JOB_BYTES (length bytes) lt)

-- not too many
pub job_reads : (bytes : List ℕ) → length bytes ≤ MAX_JOB_BYTES → job_of bytes ≡ of_prefix alone (read start 1 bytes)
unfolding job_of
job_reads bytes le = cond_no _ _ _ (le-ltb MAX_JOB_BYTES (length bytes) le)

-- what fails in its first part fails
pub fails_on : {A B : Type 0} (e : JobFault) (r : Result A BadLine) (k : A → Result B BadLine) → FailsAt e r
    → FailsAt e (r >>= k)
fails_on faults.NoMemory r k h = tt
fails_on {A} {B} (faults.Bad line why) r k h = ap (λ (x : Result A BadLine). ◌>>=◌ {B = B} x k) h

-- what fails at the prefix fails
pub prefix_fails : {A : Type 0} (e : JobFault) (make : LeadingJob → Result A BadLine) (r : Result LeadingJob BadLine) → FailsAt e r
    → FailsAt e (of_prefix make r)
prefix_fails faults.NoMemory make r h = tt
prefix_fails (faults.Bad line why) make r h = ap (of_prefix make) h

-- a job alone, and one with bytes behind it
pub is_alone : (job : Job) (line : ℕ) (rest : List ℕ) → eqb (length rest) 0 ≡ true → alone (leading_job job line rest)
    ≡ Ok job
is_alone job line rest e = cond_yes _ _ _ e

pub not_alone : (job : Job) (line : ℕ) (rest : List ℕ) → eqb (length rest) 0 ≡ false
    → alone (leading_job job line rest) ≡ Err (record { line = line; why = After })
not_alone job line rest e = cond_no _ _ _ e

-- a job of a size, and one that is too long
pub prefix_reads : (bytes : List ℕ) → prefix_of bytes ≡ of_prefix (within_size (length bytes)) (read start 1 bytes)
unfolding prefix_of
prefix_reads bytes = refl

pub is_sized : (job : Job) (line count : ℕ) (rest : List ℕ) → count - length rest ≤ MAX_JOB_BYTES
    → within_size count (leading_job job line rest) ≡ Ok (job, count - length rest)
is_sized job line count rest le = cond_no _ _ _ (le-ltb MAX_JOB_BYTES (count - length rest) le)

pub not_sized : (job : Job) (line count : ℕ) (rest : List ℕ) → MAX_JOB_BYTES < count - length rest
    → within_size count (leading_job job line rest) ≡ Err (record { line = 0; why = Size })
not_sized job line count rest lt = cond_yes _ _ _ (lt-ltb MAX_JOB_BYTES (count - length rest) lt)
