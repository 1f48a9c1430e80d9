-- The command `check`.
use Rattle.std.proofs.Common.{◌≡◌, ℕ, ◌+◌, List, [], ◌∷◌, ◌++◌, length, Option, Some, None}
use Rattle.std.proofs.Common.{refl, sym, ap, subst, ◌∙◌, inl, inr, lit<, append-nil, length-append, arith, true}
use Rattle.std.proofs.Common.{true≢false}
use Rattle.std.specs.List.{Contains}
use Rattle.base_io.specs.Buffered.{Outbox, GathersAll}
use Rattle.text_trace.specs.declared.output.Output.{Output}
use Rattle.base_text.specs.declared.why.LineWhy.{LineWhy}
use Rattle.text_job.specs.declared.job.Job.{Job as JobState}
use Rattle.cli_launch.specs.CheckInputs.{InputText, IsUnread, TakesInput, TakesNone, traces_in}
use Rattle.cli_launch.specs.Statuses.{AreOver, IsFirstFailed, is_over}
use Rattle.cli_launch.specs.Rejected.{accepted_traces}
use Rattle.cli_launch.specs.TracesRun.{AreARun}
use Rattle.cli_launch.specs.InputFault.{InputFault}
use Rattle.cli_launch.specs.InputFault.TheVariants as inputs
use Rattle.cli_launch.proofs.Ends.{all_at}
use Rattle.cli_commands.specs.Outsides.{Call, Input, IsFaultless, Reading, read_in, took_in}
use Rattle.cli_commands.specs.CheckCommand.{CheckCompletes, CheckEnds, CheckMeans, ChecksInput, GivesInput, HoldsInput}
use Rattle.cli_commands.specs.CheckCommand.{HoldsRun}
use Rattle.cli_commands.specs.Commands.{code_of}
use Rattle.cli_commands.specs.HowEnds.{After, EndMeans, gives, nothing, claims_nothing}
use Rattle.cli_commands.specs.TopParts.{EndsBy, SaysEnd, end_unread}
use Rattle.cli_commands.specs.TracesReports.{TracesEnds}
use Rattle.cli_commands.specs.declared.ending.CommandEnd.{CommandEnd}
use Rattle.cli_commands.specs.declared.ending.CommandEnd.TheVariants as ends
use Rattle.cli_commands.specs.declared.ending.EndedCommand.{EndedCommand}
use Rattle.cli_commands.specs.declared.ending.Given.{Given}
use Rattle.cli_commands.proofs.LastLine.{Weakens, Widens, alone, says_alone, weak_alone, widened}
use Rattle.cli_commands.proofs.Statuses.{code_means}
use Rattle.cli_commands.proofs.TracesTold.{weak_traces}

weak_checked : (reading : Reading) (end : CommandEnd) (given : Given) (said : List ℕ)
    → ChecksInput reading end (gives given) said → ChecksInput reading end claims_nothing said
weak_checked reading end given said h = record {
  job = h.job;
  outputs = h.outputs;
  read = h.read;
  over = h.over;
  checked = weak_traces h.job (traces_in h.outputs) end given said h.checked;
}

pub weak_check : (reading : Reading) → Weakens (CheckEnds reading)
weak_check reading ends.Done given said h = weak_checked reading ends.Done given said h
weak_check reading ends.Violations given said h = weak_checked reading ends.Violations given said h
weak_check reading (ends.BadJob line reason) given said h =
    record { read = h.read; alone = weak_alone (ends.BadJob line reason) given said h.alone }
weak_check reading ends.ReadFault given said h =
    record { rose = h.rose; alone = weak_alone ends.ReadFault given said h.alone }
weak_check reading ends.NoMemory given said (inl alone) = inl (weak_alone ends.NoMemory given said alone)
weak_check reading ends.NoMemory given said (inr left) = inr (weak_checked reading ends.NoMemory given said left)
weak_check reading (ends.NotARun node entry) given said h =
    weak_checked reading (ends.NotARun node entry) given said h
weak_check reading (ends.Child rank code) given said h = record {
  job = h.job;
  outputs = h.outputs;
  read = h.read;
  failed = h.failed;
  alone = weak_alone (ends.Child rank code) given said h.alone;
}
weak_check reading ends.Usage given said h = h
weak_check reading ends.WriteFault given said h = h
weak_check reading ends.LinkFault given said h = h
weak_check reading ends.SpawnFault given said h = h
weak_check reading ends.Stuck given said h = h
weak_check reading ends.JournalFull given said h = h

-- ---- the traces were checked

checks : (reading : Reading) (job : JobState) (outputs : List Output) → GivesInput reading job outputs
    → AreOver outputs → Widens (TracesEnds job (traces_in outputs)) (CheckEnds reading)
checks reading job outputs read over = by_end
  where
    checked : (end : CommandEnd) (after : After) (said : List ℕ) → TracesEnds job (traces_in outputs) end after said
        → ChecksInput reading end after said
    checked end after said h = record { job = job; outputs = outputs; read = read; over = over; checked = h }

    by_end : Widens (TracesEnds job (traces_in outputs)) (CheckEnds reading)
    by_end ends.Done after said h = checked ends.Done after said h
    by_end ends.Violations after said h = checked ends.Violations after said h
    by_end ends.NoMemory after said h = inr (checked ends.NoMemory after said h)
    by_end (ends.NotARun node entry) after said h = checked (ends.NotARun node entry) after said h
    by_end ends.Usage after said h = h
    by_end (ends.BadJob line reason) after said h = absurd h
    by_end ends.ReadFault after said h = absurd h
    by_end ends.WriteFault after said h = h
    by_end ends.LinkFault after said h = h
    by_end ends.SpawnFault after said h = h
    by_end ends.Stuck after said h = h
    by_end ends.JournalFull after said h = h
    by_end (ends.Child rank code) after said h = absurd h

-- the check of the traces in outputs that were read so ended so
pub check_told : (reading : Reading) (job : JobState) (outputs : List Output) (old new : Outbox) (ended : EndedCommand)
    → GivesInput reading job outputs → AreOver outputs
    → EndsBy (TracesEnds job (traces_in outputs)) old new ended → EndsBy (CheckEnds reading) old new ended
check_told reading job outputs old new ended read over told =
    widened (TracesEnds job (traces_in outputs)) (CheckEnds reading) (GathersAll old new) ended.given ended.end
    (checks reading job outputs read over) told

-- a node of them failed, and so its status line was said
pub child_told : (reading : Reading) (job : JobState) (outputs : List Output) (rank code : ℕ) (old new : Outbox)
    (ended : EndedCommand) → GivesInput reading job outputs → IsFirstFailed outputs rank code
    → SaysEnd (ends.Child rank code) nothing old new ended → EndsBy (CheckEnds reading) old new ended
child_told reading job outputs rank code old new ended read failed says =
    says_alone (CheckEnds reading) old new (ends.Child rank code) ended (weak_check reading) tt (record {
      job = job;
      outputs = outputs;
      read = read;
      failed = failed;
      alone = alone (ends.Child rank code);
    }) says

-- no input was read, and so the status line was said
pub unread_told : (reading : Reading) (fault : InputFault) (old new : Outbox) (ended : EndedCommand)
    → IsUnread reading.before.left reading.after.left reading.before.faults reading.after.faults fault
    → SaysEnd (end_unread fault) nothing old new ended → EndsBy (CheckEnds reading) old new ended
unread_told reading (inputs.Bad line reason) old new ended none says =
    says_alone (CheckEnds reading) old new (ends.BadJob line reason) ended (weak_check reading) tt
    (record { read = none; alone = alone (ends.BadJob line reason) }) says
unread_told reading inputs.ReadFault old new ended rose says =
    says_alone (CheckEnds reading) old new ends.ReadFault ended (weak_check reading) tt
    (record { rose = rose; alone = alone ends.ReadFault }) says
unread_told reading inputs.NoMemory old new ended short says =
    says_alone (CheckEnds reading) old new ends.NoMemory ended (weak_check reading) tt (inl (alone ends.NoMemory)) says

-- ---- exit statuses

check_codes : (call : Call) (end : CommandEnd) → EndMeans (CheckEnds (read_in call)) (took_in call) call.given end
    → Contains (0 ∷ 1 ∷ 3 ∷ 4 ∷ 5 ∷ 8 ∷ 11 ∷ 12 ∷ []) (code_of end)
check_codes call ends.Done h = (0, lit< tt, refl)
check_codes call ends.Violations h = (1, lit< tt, refl)
check_codes call (ends.BadJob line reason) h = (2, lit< tt, refl)
check_codes call ends.ReadFault h = (3, lit< tt, refl)
check_codes call ends.WriteFault h = (4, lit< tt, refl)
check_codes call ends.NoMemory h = (5, lit< tt, refl)
check_codes call (ends.NotARun node entry) h = (6, lit< tt, refl)
check_codes call (ends.Child rank code) h = (7, lit< tt, refl)
check_codes call ends.Usage h = absurd h.ends
check_codes call ends.LinkFault h = absurd h.ends
check_codes call ends.SpawnFault h = absurd h.ends
check_codes call ends.Stuck h = absurd h.ends
check_codes call ends.JournalFull h = absurd h.ends

pub check_means : (call : Call) (end : CommandEnd) → EndMeans (CheckEnds (read_in call)) (took_in call) call.given end
    → CheckMeans call (code_of end)
check_means call end h = code_means call (CheckEnds (read_in call)) _ end (check_codes call end h) h

-- a source that told an input doesn't give bytes that are none
not_no_input : (bytes : List ℕ) (left : Option (List ℕ)) (job : JobState) (outputs : List Output) (line : ℕ)
    (reason : LineWhy) → InputText job outputs bytes → TakesNone (Some bytes) left line reason → ⊥
not_no_input bytes None job outputs line reason text none = none.read
not_no_input bytes (Some rest) job outputs line reason text none = elim none.none [
  | inl long ↦
      let both : length bytes ≡ length none.bytes + length rest = ap length none.read ∙ length-append none.bytes rest in
      let within = text.within in let more = long.0 in omega arith
  | inr bad ↦
      let same : bytes ≡ none.bytes =
      none.read ∙ ap (λ z. none.bytes ++ z) bad.0 ∙ append-nil none.bytes in
      bad.1.none job outputs (subst (InputText job outputs) same text)
]

was_no_input : (source : Input) (left : Option (List ℕ)) (line : ℕ) (reason : LineWhy) → HoldsInput source
    → TakesNone source.left left line reason → ⊥
was_no_input source left line reason holds none =
    not_no_input holds.bytes left holds.job holds.outputs line reason holds.text
    (subst (λ (before : Option (List ℕ)). TakesNone before left line reason) holds.told none)

check_judges : (call : Call) (end : CommandEnd) → EndMeans (CheckEnds (read_in call)) (took_in call) call.given end
    → HoldsInput call.before.source → IsFaultless call → Contains (0 ∷ 1 ∷ 8 ∷ 11 ∷ 12 ∷ []) (code_of end)
check_judges call ends.Done h holds faultless = (0, lit< tt, refl)
check_judges call ends.Violations h holds faultless = (1, lit< tt, refl)
check_judges call ends.NoMemory h holds faultless = (2, lit< tt, refl)
check_judges call (ends.NotARun node entry) h holds faultless = (3, lit< tt, refl)
check_judges call (ends.Child rank code) h holds faultless = (4, lit< tt, refl)
check_judges call ends.Usage h holds faultless = absurd h.ends
check_judges call ends.LinkFault h holds faultless = absurd h.ends
check_judges call ends.SpawnFault h holds faultless = absurd h.ends
check_judges call ends.Stuck h holds faultless = absurd h.ends
check_judges call ends.JournalFull h holds faultless = absurd h.ends
check_judges call ends.ReadFault h holds faultless = absurd (faultless.source h.ends.rose)
check_judges call ends.WriteFault h holds faultless = absurd (faultless.sink h.cut.0)
check_judges call (ends.BadJob line reason) h holds faultless =
    absurd (was_no_input call.before.source call.after.source.left line reason holds h.ends.read)

-- ---- traces that are a run

-- the input that is read from a source that told one is that one
same_input : (bytes : List ℕ) (left : Option (List ℕ)) (job other : JobState) (outputs others : List Output)
    → InputText job outputs bytes → TakesInput (Some bytes) left other others → (job ≡ other) × (outputs ≡ others)
same_input bytes None job other outputs others text takes = absurd takes.read
same_input bytes (Some rest) job other outputs others text takes =
    let same : bytes ≡ takes.bytes =
    takes.read ∙ ap (λ z. takes.bytes ++ z) takes.ended ∙ append-nil takes.bytes in
    takes.is_input.one job outputs (subst (InputText job outputs) same text)

-- so its nodes ended with status 0 or 1, and their traces are a run, where those of that one are
read_run : (source : Input) (left : Option (List ℕ)) (job : JobState) (outputs : List Output) → HoldsRun source
    → TakesInput source.left left job outputs → AreOver outputs × AreARun job (accepted_traces job (traces_in outputs))
read_run source left job outputs run takes =
    let holds = run.holds in
    let same = same_input holds.bytes left holds.job job holds.outputs outputs holds.text
    (subst (λ (before : Option (List ℕ)). TakesInput before left job outputs) holds.told takes) in (
      subst AreOver same.1 run.over,
      subst (λ (all : List Output). AreARun job (accepted_traces job (traces_in all))) same.1
          (subst (λ (it : JobState). AreARun it (accepted_traces it (traces_in holds.outputs))) same.0 run.run),
    )

-- among nodes that all ended with status 0 or 1 none failed
none_failed : (outputs : List Output) (rank code : ℕ) → AreOver outputs → IsFirstFailed outputs rank code → ⊥
none_failed outputs rank code over failed =
    let one = all_at (λ (output : Output). is_over output.status ≡ true) outputs rank failed.output over failed.at in
    absurd (true≢false (sym one ∙ failed.failed))

check_finds : (call : Call) (end : CommandEnd) → EndMeans (CheckEnds (read_in call)) (took_in call) call.given end
    → HoldsRun call.before.source → IsFaultless call → Contains (0 ∷ 1 ∷ 8 ∷ []) (code_of end)
check_finds call ends.Done h run faultless = (0, lit< tt, refl)
check_finds call ends.Violations h run faultless = (1, lit< tt, refl)
check_finds call ends.NoMemory h run faultless = (2, lit< tt, refl)
check_finds call (ends.NotARun node entry) h run faultless =
    let read = read_run call.before.source call.after.source.left h.ends.job h.ends.outputs run h.ends.read in
    absurd (h.ends.checked.none.none read.1)
check_finds call (ends.Child rank code) h run faultless =
    let read = read_run call.before.source call.after.source.left h.ends.job h.ends.outputs run h.ends.read in
    absurd (none_failed h.ends.outputs rank code read.0 h.ends.failed)
check_finds call ends.Usage h run faultless = absurd h.ends
check_finds call ends.LinkFault h run faultless = absurd h.ends
check_finds call ends.SpawnFault h run faultless = absurd h.ends
check_finds call ends.Stuck h run faultless = absurd h.ends
check_finds call ends.JournalFull h run faultless = absurd h.ends
check_finds call ends.ReadFault h run faultless = absurd (faultless.source h.ends.rose)
check_finds call ends.WriteFault h run faultless = absurd (faultless.sink h.cut.0)
check_finds call (ends.BadJob line reason) h run faultless =
    absurd (was_no_input call.before.source call.after.source.left line reason run.holds h.ends.read)

pub check_completes : (call : Call) (end : CommandEnd) → EndMeans (CheckEnds (read_in call)) (took_in call) call.given end
    → CheckCompletes call (code_of end)
check_completes call end h = record { judged = check_judges call end h; is_run = check_finds call end h }
