-- The command `upgrade`.
use Rattle.std.proofs.Common.{[], ◌∷◌, refl, lit<}
use Rattle.std.specs.List.{Contains}
use Rattle.base_io.specs.Buffered.{Outbox, GathersAll}
use Rattle.base_io.specs.declared.writing.Wrote.TheVariants as wrote
use Rattle.text_job.specs.declared.job.Job.{Job as JobState}
use Rattle.text_job.specs.JobText.{job_text}
use Rattle.sim_versions.specs.Upgraded.{in_version}
use Rattle.cli_commands.specs.Outsides.{Call, Reading, read_in, took_in}
use Rattle.cli_commands.specs.Commands.{code_of}
use Rattle.cli_commands.specs.HowEnds.{After, EndMeans, gives, nothing, claims_nothing}
use Rattle.cli_commands.specs.JobReads.{GivesJob}
use Rattle.cli_commands.specs.TopParts.{EndsBy, cut_short}
use Rattle.cli_commands.specs.UpgradeCommand.{UpgradeCompletes, UpgradeEnds, UpgradeMeans, UpgradesJob}
use Rattle.cli_commands.specs.declared.ending.CommandEnd.{CommandEnd}
use Rattle.cli_commands.specs.declared.ending.CommandEnd.TheVariants as ends
use Rattle.cli_commands.proofs.LastLine.{Weakens, weak_alone}
use Rattle.cli_commands.proofs.JobRead.{MayReadNone, was_no_job}
use Rattle.cli_commands.proofs.Statuses.{code_means}
use Rattle.cli_commands.proofs.UpgradeText.{upgraded_text, world_same}

pub weak_upgrade : (reading : Reading) → Weakens (UpgradeEnds reading)
weak_upgrade reading ends.Done given said h =
    record { job = h.job; read = h.read; text = h.text; same = h.same; nothing_given = tt }
weak_upgrade reading (ends.BadJob line reason) given said h =
    record { read = h.read; alone = weak_alone (ends.BadJob line reason) given said h.alone }
weak_upgrade reading ends.ReadFault given said h =
    record { rose = h.rose; alone = weak_alone ends.ReadFault given said h.alone }
weak_upgrade reading ends.NoMemory given said h = weak_alone ends.NoMemory given said h
weak_upgrade reading ends.Violations given said h = h
weak_upgrade reading ends.Usage given said h = h
weak_upgrade reading ends.WriteFault given said h = h
weak_upgrade reading ends.LinkFault given said h = h
weak_upgrade reading ends.SpawnFault given said h = h
weak_upgrade reading ends.Stuck given said h = h
weak_upgrade reading ends.JournalFull given said h = h
weak_upgrade reading (ends.NotARun node entry) given said h = h
weak_upgrade reading (ends.Child rank code) given said h = h

-- ---- a job was read, or none

pub upgrade_none : (reading : Reading) → MayReadNone (UpgradeEnds reading) reading
upgrade_none reading (ends.BadJob line reason) after said h = h
upgrade_none reading ends.ReadFault after said h = h
upgrade_none reading ends.NoMemory after said h = h
upgrade_none reading ends.Done after said h = absurd h
upgrade_none reading ends.Violations after said h = h
upgrade_none reading ends.Usage after said h = h
upgrade_none reading ends.WriteFault after said h = h
upgrade_none reading ends.LinkFault after said h = h
upgrade_none reading ends.SpawnFault after said h = h
upgrade_none reading ends.Stuck after said h = h
upgrade_none reading ends.JournalFull after said h = h
upgrade_none reading (ends.NotARun node entry) after said h = h
upgrade_none reading (ends.Child rank code) after said h = h

upgrades : (reading : Reading) (job : JobState) (after : After) → GivesJob reading job → after.none
    → UpgradesJob reading after (job_text (in_version job 2))
upgrades reading job after read none = record {
  job = job;
  read = read;
  text = upgraded_text job read.bytes read.text;
  same = world_same job read.text.is_job;
  nothing_given = none;
}

-- all of it was written
pub upgrade_done : (reading : Reading) (job : JobState) (old new : Outbox) → GivesJob reading job
    → GathersAll old new (job_text (in_version job 2)) wrote.Done
    → EndsBy (UpgradeEnds reading) old new (record { end = ends.Done; given = nothing })
upgrade_done reading job old new read h = record {
  said = job_text (in_version job 2);
  ends = upgrades reading job (gives nothing) read refl;
  written = h;
}

-- the sink failed
pub upgrade_cut : (reading : Reading) (job : JobState) (old new : Outbox) → GivesJob reading job
    → GathersAll old new (job_text (in_version job 2)) wrote.Fault → EndsBy (UpgradeEnds reading) old new cut_short
upgrade_cut reading job old new read h = record {
  end = ends.Done;
  said = job_text (in_version job 2);
  ends = upgrades reading job claims_nothing read tt;
  cut = h;
  nothing_given = refl;
}

-- ---- exit statuses

upgrade_codes : (call : Call) (end : CommandEnd) → EndMeans (UpgradeEnds (read_in call)) (took_in call) call.given end
    → Contains (0 ∷ 3 ∷ 4 ∷ 5 ∷ 8 ∷ []) (code_of end)
upgrade_codes call ends.Done h = (0, lit< tt, refl)
upgrade_codes call (ends.BadJob line reason) h = (1, lit< tt, refl)
upgrade_codes call ends.ReadFault h = (2, lit< tt, refl)
upgrade_codes call ends.WriteFault h = (3, lit< tt, refl)
upgrade_codes call ends.NoMemory h = (4, lit< tt, refl)
upgrade_codes call ends.Violations h = absurd h.ends
upgrade_codes call ends.Usage h = absurd h.ends
upgrade_codes call ends.LinkFault h = absurd h.ends
upgrade_codes call ends.SpawnFault h = absurd h.ends
upgrade_codes call ends.Stuck h = absurd h.ends
upgrade_codes call ends.JournalFull h = absurd h.ends
upgrade_codes call (ends.NotARun node entry) h = absurd h.ends
upgrade_codes call (ends.Child rank code) h = absurd h.ends

pub upgrade_means : (call : Call) (end : CommandEnd) → EndMeans (UpgradeEnds (read_in call)) (took_in call) call.given end
    → UpgradeMeans call (code_of end)
upgrade_means call end h = code_means call (UpgradeEnds (read_in call)) _ end (upgrade_codes call end h) h

pub upgrade_completes : (call : Call) (end : CommandEnd) → EndMeans (UpgradeEnds (read_in call)) (took_in call) call.given end
    → UpgradeCompletes call (code_of end)
upgrade_completes call ends.Done h holds faultless = (0, lit< tt, refl)
upgrade_completes call ends.NoMemory h holds faultless = (1, lit< tt, refl)
upgrade_completes call ends.Violations h holds faultless = absurd h.ends
upgrade_completes call ends.Usage h holds faultless = absurd h.ends
upgrade_completes call ends.LinkFault h holds faultless = absurd h.ends
upgrade_completes call ends.SpawnFault h holds faultless = absurd h.ends
upgrade_completes call ends.Stuck h holds faultless = absurd h.ends
upgrade_completes call ends.JournalFull h holds faultless = absurd h.ends
upgrade_completes call (ends.NotARun node entry) h holds faultless = absurd h.ends
upgrade_completes call (ends.Child rank code) h holds faultless = absurd h.ends
upgrade_completes call ends.ReadFault h holds faultless = absurd (faultless.source h.ends.rose)
upgrade_completes call ends.WriteFault h holds faultless = absurd (faultless.sink h.cut.0)
upgrade_completes call (ends.BadJob line reason) h holds faultless =
    absurd (was_no_job call.before.source call.after.source.left line reason holds h.ends.read)
