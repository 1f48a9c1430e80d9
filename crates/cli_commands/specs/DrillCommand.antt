-- The command `drill`: the drill of a seed is run in a world.
use Rattle.std.specs.Prelude.{[], ◌∷◌, false, ℕ}
use Rattle.std.specs.List.{Contains}
use Rattle.sim_drill.specs.Rounds.{drill_job}
use Rattle.sim_drill.specs.Summary.{drill_lines}
use Rattle.cli_commands.specs.Outsides.{Call, IsFaultless}
use Rattle.cli_commands.specs.HowEnds.{EndsHow}
use Rattle.cli_commands.specs.RunReports.{EndsRun, LeavesRun}
use Rattle.cli_commands.specs.Statuses.{CodeMeans}
use Rattle.cli_commands.specs.declared.ending.CommandEnd.TheVariants as ends

-- how it may end; no node notes a violation in it
abbrev pub DrillEnds : (seed : ℕ) → EndsHow
DrillEnds seed ends.Done after said = EndsRun (drill_job seed) (drill_lines seed) false after said
DrillEnds seed ends.NoMemory after said = LeavesRun (drill_job seed) (drill_lines seed) after said
DrillEnds seed ends.Violations after said = ⊥
DrillEnds seed ends.Usage after said = ⊥
DrillEnds seed (ends.BadJob line reason) after said = ⊥
DrillEnds seed ends.ReadFault after said = ⊥
DrillEnds seed ends.WriteFault after said = ⊥
DrillEnds seed ends.LinkFault after said = ⊥
DrillEnds seed ends.SpawnFault after said = ⊥
DrillEnds seed ends.Stuck after said = ⊥
DrillEnds seed ends.JournalFull after said = ⊥
DrillEnds seed (ends.NotARun node entry) after said = ⊥
DrillEnds seed (ends.Child rank code) after said = ⊥

-- what each of its exit statuses says
abbrev pub DrillMeans : Call → (seed code : ℕ) → Type 0
DrillMeans call seed code = CodeMeans call (DrillEnds seed) (0 ∷ 5 ∷ 8 ∷ []) code

-- where no count of faults rose, it was run to its end, or memory ran out
abbrev pub DrillCompletes : Call → (code : ℕ) → Type 0
DrillCompletes call code = IsFaultless call → Contains (0 ∷ 8 ∷ []) code
