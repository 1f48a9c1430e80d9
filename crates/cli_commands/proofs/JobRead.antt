-- Reading a job.
use Rattle.std.proofs.Common.{◌≡◌, ℕ, List, [], ◌++◌, length, Option, Some, None, refl, sym, ap, subst, ◌∙◌}
use Rattle.std.proofs.Common.{append-nil, length-append, ◌⊎◌, inl, inr, ◌+◌, ◌≤◌, ◌<◌, Err, arith}
use Rattle.std.specs.Io.KnownBytes.{Consumes, IsAtEnd}
use Rattle.base_io.specs.Buffered.{Outbox}
use Rattle.text_job.specs.declared.job.Job.{Job as JobState}
use Rattle.text_job.specs.JobText.{JobText}
use Rattle.text_job.specs.JobReading.{job_of}
use Rattle.text_job.specs.Refusals.{IsNoMemory, IsBadLine, IsMeant}
use Rattle.text_job.specs.Refusals as refusals
use Rattle.base_text.specs.declared.why.LineWhy.{LineWhy}
use Rattle.base_text.specs.declared.why.LineWhy.TheVariants.{Size}
use Rattle.text_job.specs.declared.fault.JobFault.{JobFault}
use Rattle.text_job.specs.declared.fault.JobFault.TheVariants as faults
use Rattle.cli_commands.specs.Outsides.{Input, Reading}
use Rattle.cli_commands.specs.HowEnds.{After, EndsHow, gives, nothing, said_last}
use Rattle.cli_commands.specs.JobReads.{HoldsJob, ReadsJob, ReadsNoJob, ReadsNone}
use Rattle.cli_commands.specs.TopParts.{EndsBy, IsUnreadJob, SaysEnd}
use Rattle.cli_commands.specs.declared.ending.CommandEnd.{CommandEnd}
use Rattle.cli_commands.specs.declared.ending.CommandEnd.TheVariants as ends
use Rattle.cli_commands.specs.declared.ending.EndedCommand.{EndedCommand}
use Rattle.cli_commands.proofs.LastLine.{IsSaid, Weakens, alone, says_alone, weak_alone}
use Rattle.text_job.specs.declared.reading.TheConstants.{MAX_JOB_BYTES}

-- ---- the bytes read

-- all bytes were read, and they are the text of one job
pub reads_text : (left left' : Option (List ℕ)) (bytes seen : List ℕ) (j : JobState) → seen ≡ bytes
    → (length bytes ≤ MAX_JOB_BYTES) × Consumes left left' bytes × IsAtEnd left' → JobText j seen
    → ((other : JobState) → JobText other seen → other ≡ j)
    → (read : ReadsJob left left' j) × (read.bytes ≡ bytes)
reads_text left left' bytes seen j same h text one = (
  record {
    bytes = bytes;
    read = h.1;
    ended = h.2;
    text = subst (JobText j) same text;
    one = λ other its. one other (subst (JobText other) (sym same) its);
  },
  refl,
)

-- all bytes were read, and they are no job's text
pub reads_bad : (left left' : Option (List ℕ)) (bytes seen : List ℕ) (fault : JobFault) (line : ℕ) (reason : LineWhy)
    → seen ≡ bytes → fault ≡ faults.Bad line reason → (length bytes ≤ MAX_JOB_BYTES) × Consumes left left' bytes × IsAtEnd left'
    → IsNoMemory fault ⊎ IsBadLine seen fault → IsMeant seen fault
    → IsNoMemory fault ⊎ ((j : JobState) → JobText j seen → ⊥) → ReadsNoJob left left' line reason
reads_bad left left' bytes seen faults.NoMemory line reason same is h bad meant none = absurd (cc)
reads_bad left left' bytes seen (faults.Bad n why) line reason same is h (inl memory) meant none = absurd memory
reads_bad left left' bytes seen (faults.Bad n why) line reason same is h (inr bad) meant (inl memory) = absurd memory
reads_bad left left' bytes seen (faults.Bad n why) line reason same is h (inr bad) meant (inr none) =
    let told : IsBadLine seen (faults.Bad line reason) = subst (IsBadLine seen) is bad in
    let means : IsMeant seen (faults.Bad line reason) = subst (IsMeant seen) is meant in
    record {
      bytes = bytes;
      read = h.1;
      none = inr (
        h.2,
        subst (λ b. job_of b ≡ Err (record { line = line; why = reason })) same told,
        subst (λ b. refusals.Means b line reason) same means,
        λ j text. none j (subst (JobText j) (sym same) text),
      );
    }

-- more bytes than a job's text has were read
pub reads_long : (left left' : Option (List ℕ))
    → ((bytes : List ℕ) × (MAX_JOB_BYTES < length bytes) × Consumes left left' bytes)
    → ReadsNoJob left left' 0 Size
reads_long left left' h = record { bytes = h.0; read = h.2; none = inl (h.1, refl, refl) }

-- a source that told a job's text doesn't give bytes that are no job
not_no_job : (bytes : List ℕ) (l' : Option (List ℕ)) (j : JobState) (line : ℕ) (why : LineWhy) → JobText j bytes
    → ReadsNoJob (Some bytes) l' line why → ⊥
not_no_job bytes None j line why text r = r.read
not_no_job bytes (Some ys) j line why text r = elim r.none [
  | inl long ↦ let both : length bytes ≡ length r.bytes + length ys = ap length r.read ∙ length-append r.bytes ys in
      let within = text.within in let more = long.0 in omega arith
  | inr other ↦ let same : bytes ≡ r.bytes = r.read ∙ ap (λ z. r.bytes ++ z) other.0 ∙ append-nil r.bytes in
      other.3 j (subst (JobText j) same text)
]

-- so of a source that told a job's text before it was read
pub was_no_job : (source : Input) (left : Option (List ℕ)) (line : ℕ) (reason : LineWhy) → HoldsJob source
    → ReadsNoJob source.left left line reason → ⊥
was_no_job source left line reason holds none =
    not_no_job holds.bytes left holds.job line reason holds.text
    (subst (λ (before : Option (List ℕ)). ReadsNoJob before left line reason) holds.told none)

-- a source that told a job's text gives that job
pub one_job : (bytes : List ℕ) (left : Option (List ℕ)) (job other : JobState) → JobText job bytes
    → ReadsJob (Some bytes) left other → job ≡ other
one_job bytes None job other text r = absurd r.read
one_job bytes (Some rest) job other text r =
    let same : bytes ≡ r.bytes = r.read ∙ ap (λ z. r.bytes ++ z) r.ended ∙ append-nil r.bytes in
    r.one job (subst (JobText job) same text)

-- ---- a command that was given no job

pub weak_none : (reading : Reading) → Weakens (ReadsNone reading)
weak_none reading (ends.BadJob line reason) given said h =
    record { read = h.read; alone = weak_alone (ends.BadJob line reason) given said h.alone }
weak_none reading ends.ReadFault given said h =
    record { rose = h.rose; alone = weak_alone ends.ReadFault given said h.alone }
weak_none reading ends.NoMemory given said h = weak_alone ends.NoMemory given said h
weak_none reading ends.Done given said h = h
weak_none reading ends.Violations given said h = h
weak_none reading ends.Usage given said h = h
weak_none reading ends.WriteFault given said h = h
weak_none reading ends.LinkFault given said h = h
weak_none reading ends.SpawnFault given said h = h
weak_none reading ends.Stuck given said h = h
weak_none reading ends.JournalFull given said h = h
weak_none reading (ends.NotARun node entry) given said h = h
weak_none reading (ends.Child rank code) given said h = h

-- it is one of the ends of a command that reads a job
abbrev pub MayReadNone : EndsHow → Reading → Type 1
MayReadNone Ends reading = (end : CommandEnd) (after : After) (said : List ℕ) → ReadsNone reading end after said
    → Ends end after said

unread_said : (reading : Reading) (end : CommandEnd) → IsUnreadJob reading end → IsSaid end
unread_said reading (ends.BadJob line reason) h = tt
unread_said reading ends.ReadFault h = tt
unread_said reading ends.NoMemory h = tt
unread_said reading ends.Done h = tt
unread_said reading ends.Violations h = tt
unread_said reading ends.Usage h = tt
unread_said reading ends.WriteFault h = h
unread_said reading ends.LinkFault h = tt
unread_said reading ends.SpawnFault h = tt
unread_said reading ends.Stuck h = tt
unread_said reading ends.JournalFull h = tt
unread_said reading (ends.NotARun node entry) h = tt
unread_said reading (ends.Child rank code) h = tt

reads_none : (reading : Reading) (end : CommandEnd) → IsUnreadJob reading end
    → ReadsNone reading end (gives nothing) (said_last [] end)
reads_none reading (ends.BadJob line reason) h = record { read = h; alone = alone (ends.BadJob line reason) }
reads_none reading ends.ReadFault h = record { rose = h; alone = alone ends.ReadFault }
reads_none reading ends.NoMemory h = alone ends.NoMemory
reads_none reading ends.Done h = h
reads_none reading ends.Violations h = h
reads_none reading ends.Usage h = h
reads_none reading ends.WriteFault h = h
reads_none reading ends.LinkFault h = h
reads_none reading ends.SpawnFault h = h
reads_none reading ends.Stuck h = h
reads_none reading ends.JournalFull h = h
reads_none reading (ends.NotARun node entry) h = h
reads_none reading (ends.Child rank code) h = h

-- it says so
pub unread_told : (Ends : EndsHow) (reading : Reading) (old new : Outbox) (end : CommandEnd) (ended : EndedCommand)
    → Weakens Ends → MayReadNone Ends reading → IsUnreadJob reading end → SaysEnd end nothing old new ended
    → EndsBy Ends old new ended
unread_told Ends reading old new end ended weak may h says =
    says_alone Ends old new end ended weak (unread_said reading end h)
    (may end (gives nothing) (said_last [] end) (reads_none reading end h)) says
