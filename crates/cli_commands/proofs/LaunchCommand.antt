-- The command `launch`.
use Rattle.std.proofs.Common.{◌≡◌, ℕ, List, [], ◌∷◌, Option, false, true≢false, refl, sym, ap, subst, ◌∙◌}
use Rattle.std.proofs.Common.{inl, inr, lit<, Err}
use Rattle.std.specs.List.{Contains}
use Rattle.base_io.specs.Buffered.{Outbox, GathersAll}
use Rattle.base_io.specs.Faults.{Rose}
use Rattle.text_trace.specs.declared.output.Output.{Output}
use Rattle.text_job.specs.declared.job.Job.{Job as JobState}
use Rattle.cli_launch.specs.CheckInputs.{traces_in}
use Rattle.cli_launch.specs.LaunchEnds.{EndsLaunch, GivesOutputs, Launch}
use Rattle.cli_launch.specs.declared.fault.LaunchFault.{LaunchFault}
use Rattle.cli_launch.specs.declared.fault.LaunchFault.TheVariants as launches
use Rattle.cli_commands.specs.Outsides.{Call, Input, IsFaultless, Reading, Spawning, read_in, spawning_in, took_in}
use Rattle.cli_commands.specs.Commands.{code_of}
use Rattle.cli_commands.specs.HowEnds.{After, EndMeans, gives, nothing, claims_nothing}
use Rattle.cli_commands.specs.JobReads.{GivesJob, ReadsJob}
use Rattle.cli_commands.specs.LaunchCommand.{ChecksLaunch, HoldsLaunch, IsUnused, LaunchCompletes, LaunchEnds, LaunchMeans}
use Rattle.cli_commands.specs.LaunchCommand.{ReadsLaunch, TellsRun, launch_of}
use Rattle.cli_commands.specs.Ports.{has_ports}
use Rattle.cli_commands.specs.TopParts.{EndsBy, SaysEnd, end_of_fault}
use Rattle.cli_commands.specs.TracesReports.{TracesEnds}
use Rattle.cli_commands.specs.declared.ending.CommandEnd.{CommandEnd}
use Rattle.cli_commands.specs.declared.ending.CommandEnd.TheVariants as ends
use Rattle.cli_commands.specs.declared.ending.EndedCommand.{EndedCommand}
use Rattle.cli_commands.specs.declared.ending.Given.{Given}
use Rattle.cli_commands.proofs.LastLine.{Weakens, Widens, alone, says_alone, weak_alone, widened}
use Rattle.cli_commands.proofs.JobRead.{MayReadNone, one_job, was_no_job}
use Rattle.cli_commands.proofs.LaunchRun.{gave_run, none_lost}
use Rattle.cli_commands.proofs.Statuses.{code_means}
use Rattle.cli_commands.proofs.TracesTold.{weak_traces}

weak_checked : (port : ℕ) (reading : Reading) (spawning : Spawning) (end : CommandEnd) (given : Given) (said : List ℕ)
    → ChecksLaunch port reading spawning end (gives given) said → ChecksLaunch port reading spawning end claims_nothing said
weak_checked port reading spawning end given said h = record {
  reads = h.reads;
  outputs = h.outputs;
  gives = h.gives;
  checked = weak_traces h.reads.job (traces_in h.outputs) end given said h.checked;
}

pub weak_launch : (port : ℕ) (reading : Reading) (spawning : Spawning) → Weakens (LaunchEnds port reading spawning)
weak_launch port reading spawning ends.Done given said h = weak_checked port reading spawning ends.Done given said h
weak_launch port reading spawning ends.Violations given said h =
    weak_checked port reading spawning ends.Violations given said h
weak_launch port reading spawning ends.Usage given said h = record {
  job = h.job;
  read = h.read;
  no_ports = h.no_ports;
  unused = h.unused;
  alone = weak_alone ends.Usage given said h.alone;
}
weak_launch port reading spawning (ends.BadJob line reason) given said h =
    (record { read = h.0.read; alone = weak_alone (ends.BadJob line reason) given said h.0.alone }, h.1)
weak_launch port reading spawning ends.ReadFault given said h =
    (record { rose = h.0.rose; alone = weak_alone ends.ReadFault given said h.0.alone }, h.1)
weak_launch port reading spawning ends.SpawnFault given said h = record {
  reads = h.reads;
  fails = h.fails;
  alone = weak_alone ends.SpawnFault given said h.alone;
}
weak_launch port reading spawning ends.NoMemory given said (inl none) =
    inl (weak_alone ends.NoMemory given said none.0, none.1)
weak_launch port reading spawning ends.NoMemory given said (inr (inl short)) = inr (inl (record {
  reads = short.reads;
  short = short.short;
  alone = weak_alone ends.NoMemory given said short.alone;
}))
weak_launch port reading spawning ends.NoMemory given said (inr (inr left)) =
    inr (inr (weak_checked port reading spawning ends.NoMemory given said left))
weak_launch port reading spawning (ends.NotARun node entry) given said h =
    weak_checked port reading spawning (ends.NotARun node entry) given said h
weak_launch port reading spawning (ends.Child rank code) given said h = record {
  reads = h.reads;
  loses = h.loses;
  alone = weak_alone (ends.Child rank code) given said h.alone;
}
weak_launch port reading spawning ends.WriteFault given said h = h
weak_launch port reading spawning ends.LinkFault given said h = h
weak_launch port reading spawning ends.Stuck given said h = h
weak_launch port reading spawning ends.JournalFull given said h = h

-- ---- a job was read, or none

pub launch_none : (port : ℕ) (reading : Reading) (spawning : Spawning) → IsUnused spawning
    → MayReadNone (LaunchEnds port reading spawning) reading
launch_none port reading spawning unused (ends.BadJob line reason) after said h = (h, unused)
launch_none port reading spawning unused ends.ReadFault after said h = (h, unused)
launch_none port reading spawning unused ends.NoMemory after said h = inl (h, unused)
launch_none port reading spawning unused ends.Done after said h = absurd h
launch_none port reading spawning unused ends.Violations after said h = absurd h
launch_none port reading spawning unused ends.Usage after said h = absurd h
launch_none port reading spawning unused ends.WriteFault after said h = h
launch_none port reading spawning unused ends.LinkFault after said h = h
launch_none port reading spawning unused ends.SpawnFault after said h = absurd h
launch_none port reading spawning unused ends.Stuck after said h = h
launch_none port reading spawning unused ends.JournalFull after said h = h
launch_none port reading spawning unused (ends.NotARun node entry) after said h = absurd h
launch_none port reading spawning unused (ends.Child rank code) after said h = absurd h

-- not each node has a port, and so the status line was said
pub ports_told : (port : ℕ) (reading : Reading) (spawning : Spawning) (job : JobState) (old new : Outbox)
    (ended : EndedCommand) → GivesJob reading job → has_ports port job.settings.nodes ≡ false → IsUnused spawning
    → SaysEnd ends.Usage nothing old new ended → EndsBy (LaunchEnds port reading spawning) old new ended
ports_told port reading spawning job old new ended read no_ports unused says =
    says_alone (LaunchEnds port reading spawning) old new ends.Usage ended (weak_launch port reading spawning) tt
    (record { job = job; read = read; no_ports = no_ports; unused = unused; alone = alone ends.Usage }) says

-- ---- it was launched

-- the launch is that of the bytes that were read
pub launch_so : (port : ℕ) (reading : Reading) (reads : ReadsLaunch port reading) (bytes : List ℕ)
    → reads.read.bytes ≡ bytes
    → (let launch : Launch = record { job = reads.job; port = port; input = bytes } in
    launch ≡ launch_of port reading reads)
launch_so port reading reads bytes is =
    ap (λ (input : List ℕ). record { job = reads.job; port = port; input = input }) (sym is)

checks : (port : ℕ) (reading : Reading) (spawning : Spawning) (reads : ReadsLaunch port reading)
    (outputs : List Output) → GivesOutputs (launch_of port reading reads) spawning.before spawning.after outputs
    → Widens (TracesEnds reads.job (traces_in outputs)) (LaunchEnds port reading spawning)
checks port reading spawning reads outputs given = by_end
  where
    checked : (end : CommandEnd) (after : After) (said : List ℕ) → TracesEnds reads.job (traces_in outputs) end after said
        → ChecksLaunch port reading spawning end after said
    checked end after said h = record { reads = reads; outputs = outputs; gives = given; checked = h }

    by_end : Widens (TracesEnds reads.job (traces_in outputs)) (LaunchEnds port reading spawning)
    by_end ends.Done after said h = checked ends.Done after said h
    by_end ends.Violations after said h = checked ends.Violations after said h
    by_end ends.NoMemory after said h = inr (inr (checked ends.NoMemory after said h))
    by_end (ends.NotARun node entry) after said h = checked (ends.NotARun node entry) after said h
    by_end ends.Usage after said h = absurd h
    by_end (ends.BadJob line reason) after said h = absurd h
    by_end ends.ReadFault after said h = absurd h
    by_end ends.WriteFault after said h = h
    by_end ends.LinkFault after said h = h
    by_end ends.SpawnFault after said h = absurd h
    by_end ends.Stuck after said h = h
    by_end ends.JournalFull after said h = h
    by_end (ends.Child rank code) after said h = absurd h

-- it gave outputs, and the check of the traces in them ended so
pub checked_told : (port : ℕ) (reading : Reading) (spawning : Spawning) (reads : ReadsLaunch port reading)
    (launch : Launch) (outputs : List Output) (old new : Outbox) (ended : EndedCommand)
    → launch ≡ launch_of port reading reads → GivesOutputs launch spawning.before spawning.after outputs
    → EndsBy (TracesEnds reads.job (traces_in outputs)) old new ended
    → EndsBy (LaunchEnds port reading spawning) old new ended
checked_told port reading spawning reads launch outputs old new ended is given told =
    let so = subst (λ (it : Launch). GivesOutputs it spawning.before spawning.after outputs) is given in
    widened (TracesEnds reads.job (traces_in outputs)) (LaunchEnds port reading spawning) (GathersAll old new)
    ended.given ended.end (checks port reading spawning reads outputs so) told

-- it gave none, and so the status line was said
fault_said : (port : ℕ) (reading : Reading) (spawning : Spawning) (reads : ReadsLaunch port reading)
    (fault : LaunchFault) (old new : Outbox) (ended : EndedCommand)
    → EndsLaunch (launch_of port reading reads) spawning.before spawning.after (Err fault)
    → SaysEnd (end_of_fault fault) nothing old new ended → EndsBy (LaunchEnds port reading spawning) old new ended
fault_said port reading spawning reads (launches.Child rank code) old new ended loses says =
    says_alone (LaunchEnds port reading spawning) old new (ends.Child rank code) ended
    (weak_launch port reading spawning) tt
    (record { reads = reads; loses = loses; alone = alone (ends.Child rank code) }) says
fault_said port reading spawning reads launches.SpawnFault old new ended fails says =
    says_alone (LaunchEnds port reading spawning) old new ends.SpawnFault ended (weak_launch port reading spawning) tt
    (record { reads = reads; fails = fails; alone = alone ends.SpawnFault }) says
fault_said port reading spawning reads launches.NoMemory old new ended (inl unused) says =
    says_alone (LaunchEnds port reading spawning) old new ends.NoMemory ended (weak_launch port reading spawning) tt
    (inl (alone ends.NoMemory, unused)) says
fault_said port reading spawning reads launches.NoMemory old new ended (inr short) says =
    says_alone (LaunchEnds port reading spawning) old new ends.NoMemory ended (weak_launch port reading spawning) tt
    (inr (inl (record { reads = reads; short = short; alone = alone ends.NoMemory }))) says

pub fault_told : (port : ℕ) (reading : Reading) (spawning : Spawning) (reads : ReadsLaunch port reading)
    (launch : Launch) (fault : LaunchFault) (old new : Outbox) (ended : EndedCommand)
    → launch ≡ launch_of port reading reads → EndsLaunch launch spawning.before spawning.after (Err fault)
    → SaysEnd (end_of_fault fault) nothing old new ended → EndsBy (LaunchEnds port reading spawning) old new ended
fault_told port reading spawning reads launch fault old new ended is told says =
    fault_said port reading spawning reads fault old new ended
    (subst (λ (it : Launch). EndsLaunch it spawning.before spawning.after (Err fault)) is told) says

-- ---- exit statuses

-- how a call of it ended
abbrev EndedSo : Call → (port : ℕ) → CommandEnd → Type 0
EndedSo call port end =
    EndMeans (LaunchEnds port (read_in call) (spawning_in call)) (took_in call) call.given end

launch_codes : (call : Call) (port : ℕ) (end : CommandEnd) → EndedSo call port end
    → Contains (0 ∷ 1 ∷ 2 ∷ 3 ∷ 4 ∷ 5 ∷ 7 ∷ 8 ∷ 11 ∷ 12 ∷ []) (code_of end)
launch_codes call port ends.Done h = (0, lit< tt, refl)
launch_codes call port ends.Violations h = (1, lit< tt, refl)
launch_codes call port ends.Usage h = (2, lit< tt, refl)
launch_codes call port (ends.BadJob line reason) h = (3, lit< tt, refl)
launch_codes call port ends.ReadFault h = (4, lit< tt, refl)
launch_codes call port ends.WriteFault h = (5, lit< tt, refl)
launch_codes call port ends.SpawnFault h = (6, lit< tt, refl)
launch_codes call port ends.NoMemory h = (7, lit< tt, refl)
launch_codes call port (ends.NotARun node entry) h = (8, lit< tt, refl)
launch_codes call port (ends.Child rank code) h = (9, lit< tt, refl)
launch_codes call port ends.LinkFault h = absurd h.ends
launch_codes call port ends.Stuck h = absurd h.ends
launch_codes call port ends.JournalFull h = absurd h.ends

pub launch_means : (call : Call) (port : ℕ) (end : CommandEnd) → EndedSo call port end → LaunchMeans call port (code_of end)
launch_means call port end h =
    code_means call (LaunchEnds port (read_in call) (spawning_in call)) _ end (launch_codes call port end h) h

-- a source that told the text of a job with ports doesn't give one without
has_them : (source : Input) (left : Option (List ℕ)) (port : ℕ) (job : JobState) → HoldsLaunch port source
    → ReadsJob source.left left job → has_ports port job.settings.nodes ≡ false → ⊥
has_them source left port job holds read none =
    let same = one_job holds.holds.bytes left holds.holds.job job holds.holds.text
    (subst (λ (before : Option (List ℕ)). ReadsJob before left job) holds.holds.told read) in
    absurd (true≢false (sym holds.ports ∙ (ap (λ (j : JobState). has_ports port j.settings.nodes) same ∙ none)))

launch_judges : (call : Call) (port : ℕ) (end : CommandEnd) → EndedSo call port end → HoldsLaunch port call.before.source
    → IsFaultless call → (Rose call.before.spawner.faults call.after.spawner.faults → ⊥)
    → Contains (0 ∷ 1 ∷ 8 ∷ 11 ∷ 12 ∷ []) (code_of end)
launch_judges call port ends.Done h holds faultless spawned = (0, lit< tt, refl)
launch_judges call port ends.Violations h holds faultless spawned = (1, lit< tt, refl)
launch_judges call port ends.NoMemory h holds faultless spawned = (2, lit< tt, refl)
launch_judges call port (ends.NotARun node entry) h holds faultless spawned = (3, lit< tt, refl)
launch_judges call port (ends.Child rank code) h holds faultless spawned = (4, lit< tt, refl)
launch_judges call port ends.LinkFault h holds faultless spawned = absurd h.ends
launch_judges call port ends.Stuck h holds faultless spawned = absurd h.ends
launch_judges call port ends.JournalFull h holds faultless spawned = absurd h.ends
launch_judges call port ends.SpawnFault h holds faultless spawned = absurd (spawned h.ends.fails.rose)
launch_judges call port ends.ReadFault h holds faultless spawned = absurd (faultless.source h.ends.0.rose)
launch_judges call port ends.WriteFault h holds faultless spawned = absurd (faultless.sink h.cut.0)
launch_judges call port (ends.BadJob line reason) h holds faultless spawned =
    absurd (was_no_job call.before.source call.after.source.left line reason holds.holds h.ends.0.read)
launch_judges call port ends.Usage h holds faultless spawned =
    absurd (has_them call.before.source call.after.source.left port h.ends.job holds h.ends.read h.ends.no_ports)

-- what the spawner tells is a run of the job that was read
tells_read : (source : Input) (left : Option (List ℕ)) (port : ℕ) (job : JobState) (spawning : Spawning)
    (holds : HoldsLaunch port source) → ReadsJob source.left left job → TellsRun holds.holds.job spawning
    → TellsRun job spawning
tells_read source left port job spawning holds read tells =
    subst (λ (it : JobState). TellsRun it spawning) (one_job holds.holds.bytes left holds.holds.job job
    holds.holds.text (subst (λ (before : Option (List ℕ)). ReadsJob before left job) holds.holds.told read)) tells

launch_finds : (call : Call) (port : ℕ) (end : CommandEnd) → EndedSo call port end
    → (holds : HoldsLaunch port call.before.source) → TellsRun holds.holds.job (spawning_in call) → IsFaultless call
    → (Rose call.before.spawner.faults call.after.spawner.faults → ⊥) → Contains (0 ∷ 1 ∷ 8 ∷ []) (code_of end)
launch_finds call port ends.Done h holds tells faultless spawned = (0, lit< tt, refl)
launch_finds call port ends.Violations h holds tells faultless spawned = (1, lit< tt, refl)
launch_finds call port ends.NoMemory h holds tells faultless spawned = (2, lit< tt, refl)
launch_finds call port (ends.NotARun node entry) h holds tells faultless spawned =
    let reads = h.ends.reads in
    let so = tells_read call.before.source call.after.source.left port reads.job (spawning_in call) holds reads.read
    tells in
    absurd (h.ends.checked.none.none (gave_run (launch_of port (read_in call) reads) (spawning_in call) h.ends.outputs
    reads.read.text.is_job so h.ends.gives))
launch_finds call port (ends.Child rank code) h holds tells faultless spawned =
    let reads = h.ends.reads in
    let so = tells_read call.before.source call.after.source.left port reads.job (spawning_in call) holds reads.read
    tells in
    absurd (none_lost (launch_of port (read_in call) reads) (spawning_in call) rank code so h.ends.loses)
launch_finds call port ends.LinkFault h holds tells faultless spawned = absurd h.ends
launch_finds call port ends.Stuck h holds tells faultless spawned = absurd h.ends
launch_finds call port ends.JournalFull h holds tells faultless spawned = absurd h.ends
launch_finds call port ends.SpawnFault h holds tells faultless spawned = absurd (spawned h.ends.fails.rose)
launch_finds call port ends.ReadFault h holds tells faultless spawned = absurd (faultless.source h.ends.0.rose)
launch_finds call port ends.WriteFault h holds tells faultless spawned = absurd (faultless.sink h.cut.0)
launch_finds call port (ends.BadJob line reason) h holds tells faultless spawned =
    absurd (was_no_job call.before.source call.after.source.left line reason holds.holds h.ends.0.read)
launch_finds call port ends.Usage h holds tells faultless spawned =
    absurd (has_them call.before.source call.after.source.left port h.ends.job holds h.ends.read h.ends.no_ports)

pub launch_completes : (call : Call) (port : ℕ) (end : CommandEnd) → EndedSo call port end
    → LaunchCompletes call port (code_of end)
launch_completes call port end h =
    record { judged = launch_judges call port end h; is_run = launch_finds call port end h }
