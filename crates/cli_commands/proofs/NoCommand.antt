-- Words that are those of no command.
use Rattle.std.proofs.Common.{[], ◌∷◌, refl, lit<}
use Rattle.std.specs.List.{Contains}
use Rattle.cli_commands.specs.Outsides.{Call, took_in}
use Rattle.cli_commands.specs.Commands.{code_of}
use Rattle.cli_commands.specs.HowEnds.{EndMeans}
use Rattle.cli_commands.specs.NoCommand.{UsageEnds, UsageMeans}
use Rattle.cli_commands.specs.declared.ending.CommandEnd.{CommandEnd}
use Rattle.cli_commands.specs.declared.ending.CommandEnd.TheVariants as ends
use Rattle.cli_commands.proofs.LastLine.{Weakens, weak_alone}
use Rattle.cli_commands.proofs.Statuses.{code_means}

pub weak_usage : Weakens UsageEnds
weak_usage end given said h = (h.0, weak_alone end given said h.1)

usage_codes : (call : Call) (end : CommandEnd) → EndMeans UsageEnds (took_in call) call.given end
    → Contains (2 ∷ 5 ∷ []) (code_of end)
usage_codes call ends.Usage h = (0, lit< tt, refl)
usage_codes call ends.WriteFault h = (1, lit< tt, refl)
usage_codes call ends.Done h = absurd (let other = h.ends.0 in cc)
usage_codes call ends.Violations h = absurd (let other = h.ends.0 in cc)
usage_codes call (ends.BadJob line reason) h = absurd (let other = h.ends.0 in cc)
usage_codes call ends.ReadFault h = absurd (let other = h.ends.0 in cc)
usage_codes call ends.NoMemory h = absurd (let other = h.ends.0 in cc)
usage_codes call ends.LinkFault h = absurd (let other = h.ends.0 in cc)
usage_codes call ends.SpawnFault h = absurd (let other = h.ends.0 in cc)
usage_codes call ends.Stuck h = absurd (let other = h.ends.0 in cc)
usage_codes call ends.JournalFull h = absurd (let other = h.ends.0 in cc)
usage_codes call (ends.NotARun node entry) h = absurd (let other = h.ends.0 in cc)
usage_codes call (ends.Child rank code) h = absurd (let other = h.ends.0 in cc)

pub usage_means : (call : Call) (end : CommandEnd) → EndMeans UsageEnds (took_in call) call.given end
    → UsageMeans call (code_of end)
usage_means call end h = code_means call UsageEnds _ end (usage_codes call end h) h
