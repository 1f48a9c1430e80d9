-- The command `world`.
use Rattle.std.proofs.Common.{ℕ, List, [], ◌∷◌, Bool, true, false, refl, inl, inr, lit<}
use Rattle.std.specs.List.{Contains}
use Rattle.text_job.specs.declared.job.Job.{Job as JobState}
use Rattle.sim_drill.specs.RunText.{run_lines}
use Rattle.sim_drill.specs.RunLaws.{RunLaws}
use Rattle.cli_commands.specs.Outsides.{Call, Reading, read_in, took_in}
use Rattle.cli_commands.specs.Commands.{code_of, end_of}
use Rattle.cli_commands.specs.HowEnds.{After, EndMeans, gives, claims_nothing}
use Rattle.cli_commands.specs.JobReads.{GivesJob}
use Rattle.cli_commands.specs.RunReports.{EndsRun}
use Rattle.cli_commands.specs.WorldCommand.{WorldCompletes, WorldEnds, WorldMeans}
use Rattle.cli_commands.specs.declared.ending.CommandEnd.{CommandEnd}
use Rattle.cli_commands.specs.declared.ending.CommandEnd.TheVariants as ends
use Rattle.cli_commands.proofs.LastLine.{Weakens, weak_alone}
use Rattle.cli_commands.proofs.JobRead.{MayReadNone, was_no_job}
use Rattle.cli_commands.proofs.RunTold.{Runs, weak_left, weak_run}
use Rattle.cli_commands.proofs.Statuses.{code_means}

pub weak_world : (reading : Reading) → Weakens (WorldEnds reading)
weak_world reading ends.Done given said h =
    record { job = h.job; read = h.read; run = weak_run h.job (run_lines h.job) false given said h.run }
weak_world reading ends.Violations given said h =
    record { job = h.job; read = h.read; run = weak_run h.job (run_lines h.job) true given said h.run }
weak_world reading (ends.BadJob line reason) given said h =
    record { read = h.read; alone = weak_alone (ends.BadJob line reason) given said h.alone }
weak_world reading ends.ReadFault given said h =
    record { rose = h.rose; alone = weak_alone ends.ReadFault given said h.alone }
weak_world reading ends.NoMemory given said (inl alone) = inl (weak_alone ends.NoMemory given said alone)
weak_world reading ends.NoMemory given said (inr left) =
    inr (record { job = left.job; read = left.read; run = weak_left left.job (run_lines left.job) given said left.run })
weak_world reading ends.Usage given said h = h
weak_world reading ends.WriteFault given said h = h
weak_world reading ends.LinkFault given said h = h
weak_world reading ends.SpawnFault given said h = h
weak_world reading ends.Stuck given said h = h
weak_world reading ends.JournalFull given said h = h
weak_world reading (ends.NotARun node entry) given said h = h
weak_world reading (ends.Child rank code) given said h = h

-- ---- a job was read, or none

pub world_none : (reading : Reading) → MayReadNone (WorldEnds reading) reading
world_none reading (ends.BadJob line reason) after said h = h
world_none reading ends.ReadFault after said h = h
world_none reading ends.NoMemory after said h = inl h
world_none reading ends.Done after said h = absurd h
world_none reading ends.Violations after said h = absurd h
world_none reading ends.Usage after said h = h
world_none reading ends.WriteFault after said h = h
world_none reading ends.LinkFault after said h = h
world_none reading ends.SpawnFault after said h = h
world_none reading ends.Stuck after said h = h
world_none reading ends.JournalFull after said h = h
world_none reading (ends.NotARun node entry) after said h = h
world_none reading (ends.Child rank code) after said h = h

world_whole : (reading : Reading) (job : JobState) (after : After) (violated : Bool) (said : List ℕ)
    → GivesJob reading job → EndsRun job (run_lines job) violated after said
    → WorldEnds reading (end_of violated) after said
world_whole reading job after true said read run = record { job = job; read = read; run = run }
world_whole reading job after false said read run = record { job = job; read = read; run = run }

pub world_runs : (reading : Reading) (job : JobState) → GivesJob reading job → RunLaws job
    → Runs (WorldEnds reading) job (run_lines job)
world_runs reading job read laws = record {
  laws = laws;
  weak = weak_world reading;
  whole = λ violated given said. world_whole reading job (gives given) violated said read;
  cut = λ violated said. world_whole reading job claims_nothing violated said read;
  left = λ said left. inr (record { job = job; read = read; run = left });
}

-- ---- exit statuses

world_codes : (call : Call) (end : CommandEnd) → EndMeans (WorldEnds (read_in call)) (took_in call) call.given end
    → Contains (0 ∷ 1 ∷ 3 ∷ 4 ∷ 5 ∷ 8 ∷ []) (code_of end)
world_codes call ends.Done h = (0, lit< tt, refl)
world_codes call ends.Violations h = (1, lit< tt, refl)
world_codes call (ends.BadJob line reason) h = (2, lit< tt, refl)
world_codes call ends.ReadFault h = (3, lit< tt, refl)
world_codes call ends.WriteFault h = (4, lit< tt, refl)
world_codes call ends.NoMemory h = (5, lit< tt, refl)
world_codes call ends.Usage h = absurd h.ends
world_codes call ends.LinkFault h = absurd h.ends
world_codes call ends.SpawnFault h = absurd h.ends
world_codes call ends.Stuck h = absurd h.ends
world_codes call ends.JournalFull h = absurd h.ends
world_codes call (ends.NotARun node entry) h = absurd h.ends
world_codes call (ends.Child rank code) h = absurd h.ends

pub world_means : (call : Call) (end : CommandEnd) → EndMeans (WorldEnds (read_in call)) (took_in call) call.given end
    → WorldMeans call (code_of end)
world_means call end h = code_means call (WorldEnds (read_in call)) _ end (world_codes call end h) h

pub world_completes : (call : Call) (end : CommandEnd) → EndMeans (WorldEnds (read_in call)) (took_in call) call.given end
    → WorldCompletes call (code_of end)
world_completes call ends.Done h holds faultless = (0, lit< tt, refl)
world_completes call ends.Violations h holds faultless = (1, lit< tt, refl)
world_completes call ends.NoMemory h holds faultless = (2, lit< tt, refl)
world_completes call ends.Usage h holds faultless = absurd h.ends
world_completes call ends.LinkFault h holds faultless = absurd h.ends
world_completes call ends.SpawnFault h holds faultless = absurd h.ends
world_completes call ends.Stuck h holds faultless = absurd h.ends
world_completes call ends.JournalFull h holds faultless = absurd h.ends
world_completes call (ends.NotARun node entry) h holds faultless = absurd h.ends
world_completes call (ends.Child rank code) h holds faultless = absurd h.ends
world_completes call ends.ReadFault h holds faultless = absurd (faultless.source h.ends.rose)
world_completes call ends.WriteFault h holds faultless = absurd (faultless.sink h.cut.0)
world_completes call (ends.BadJob line reason) h holds faultless =
    absurd (was_no_job call.before.source call.after.source.left line reason holds h.ends.read)
