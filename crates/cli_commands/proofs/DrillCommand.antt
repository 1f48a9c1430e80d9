-- The command `drill`.
use Rattle.std.proofs.Common.{◌≡◌, ℕ, List, [], ◌∷◌, Bool, true, false, refl, sym, ◌∙◌, lit<}
use Rattle.std.specs.List.{Contains}
use Rattle.sim_drill.specs.RunLaws.{RunLaws}
use Rattle.sim_drill.specs.RunText.{is_violated}
use Rattle.sim_drill.specs.Rounds.{drill_job}
use Rattle.sim_drill.specs.Summary.{drill_lines}
use Rattle.cli_commands.specs.Outsides.{Call, took_in}
use Rattle.cli_commands.specs.Commands.{code_of, end_of}
use Rattle.cli_commands.specs.HowEnds.{After, EndMeans, gives, claims_nothing}
use Rattle.cli_commands.specs.RunReports.{EndsRun}
use Rattle.cli_commands.specs.DrillCommand.{DrillCompletes, DrillEnds, DrillMeans}
use Rattle.cli_commands.specs.declared.ending.CommandEnd.{CommandEnd}
use Rattle.cli_commands.specs.declared.ending.CommandEnd.TheVariants as ends
use Rattle.cli_commands.proofs.LastLine.{Weakens}
use Rattle.cli_commands.proofs.RunTold.{Runs, weak_left, weak_run}
use Rattle.cli_commands.proofs.Statuses.{code_means}

pub weak_drill : (seed : ℕ) → Weakens (DrillEnds seed)
weak_drill seed ends.Done given said h = weak_run (drill_job seed) (drill_lines seed) false given said h
weak_drill seed ends.Violations given said h = h
weak_drill seed ends.NoMemory given said h = weak_left (drill_job seed) (drill_lines seed) given said h
weak_drill seed ends.Usage given said h = h
weak_drill seed (ends.BadJob line reason) given said h = h
weak_drill seed ends.ReadFault given said h = h
weak_drill seed ends.WriteFault given said h = h
weak_drill seed ends.LinkFault given said h = h
weak_drill seed ends.SpawnFault given said h = h
weak_drill seed ends.Stuck given said h = h
weak_drill seed ends.JournalFull given said h = h
weak_drill seed (ends.NotARun node entry) given said h = h
weak_drill seed (ends.Child rank code) given said h = h

drill_whole : (seed : ℕ) (after : After) (violated : Bool) (said : List ℕ) → is_violated (drill_job seed) ≡ false
    → EndsRun (drill_job seed) (drill_lines seed) violated after said → DrillEnds seed (end_of violated) after said
drill_whole seed after true said calm run = let both : false ≡ true = sym calm ∙ run.violated_is in absurd (cc)
drill_whole seed after false said calm run = run

pub drill_runs : (seed : ℕ) → RunLaws (drill_job seed) → is_violated (drill_job seed) ≡ false
    → Runs (DrillEnds seed) (drill_job seed) (drill_lines seed)
drill_runs seed laws calm = record {
  laws = laws;
  weak = weak_drill seed;
  whole = λ violated given said. drill_whole seed (gives given) violated said calm;
  cut = λ violated said. drill_whole seed claims_nothing violated said calm;
  left = λ said left. left;
}

-- ---- exit statuses

drill_codes : (call : Call) (seed : ℕ) (end : CommandEnd) → EndMeans (DrillEnds seed) (took_in call) call.given end
    → Contains (0 ∷ 5 ∷ 8 ∷ []) (code_of end)
drill_codes call seed ends.Done h = (0, lit< tt, refl)
drill_codes call seed ends.WriteFault h = (1, lit< tt, refl)
drill_codes call seed ends.NoMemory h = (2, lit< tt, refl)
drill_codes call seed ends.Violations h = absurd h.ends
drill_codes call seed ends.Usage h = absurd h.ends
drill_codes call seed ends.LinkFault h = absurd h.ends
drill_codes call seed ends.SpawnFault h = absurd h.ends
drill_codes call seed ends.Stuck h = absurd h.ends
drill_codes call seed ends.JournalFull h = absurd h.ends
drill_codes call seed (ends.NotARun node entry) h = absurd h.ends
drill_codes call seed (ends.Child rank code) h = absurd h.ends
drill_codes call seed (ends.BadJob line reason) h = absurd h.ends
drill_codes call seed ends.ReadFault h = absurd h.ends

pub drill_means : (call : Call) (seed : ℕ) (end : CommandEnd) → EndMeans (DrillEnds seed) (took_in call) call.given end
    → DrillMeans call seed (code_of end)
drill_means call seed end h = code_means call (DrillEnds seed) _ end (drill_codes call seed end h) h

pub drill_completes : (call : Call) (seed : ℕ) (end : CommandEnd) → EndMeans (DrillEnds seed) (took_in call) call.given end
    → DrillCompletes call (code_of end)
drill_completes call seed ends.Done h faultless = (0, lit< tt, refl)
drill_completes call seed ends.NoMemory h faultless = (1, lit< tt, refl)
drill_completes call seed ends.WriteFault h faultless = absurd (faultless.sink h.cut.0)
drill_completes call seed ends.Violations h faultless = absurd h.ends
drill_completes call seed ends.Usage h faultless = absurd h.ends
drill_completes call seed ends.LinkFault h faultless = absurd h.ends
drill_completes call seed ends.SpawnFault h faultless = absurd h.ends
drill_completes call seed ends.Stuck h faultless = absurd h.ends
drill_completes call seed ends.JournalFull h faultless = absurd h.ends
drill_completes call seed (ends.NotARun node entry) h faultless = absurd h.ends
drill_completes call seed (ends.Child rank code) h faultless = absurd h.ends
drill_completes call seed (ends.BadJob line reason) h faultless = absurd h.ends
drill_completes call seed ends.ReadFault h faultless = absurd h.ends
