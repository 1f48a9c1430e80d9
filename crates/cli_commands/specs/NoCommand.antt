-- Words that are those of no command.
use Rattle.std.specs.Prelude.{◌≡◌, [], ◌∷◌, ℕ}
use Rattle.cli_commands.specs.Outsides.{Call}
use Rattle.cli_commands.specs.HowEnds.{EndsHow, SaysAlone}
use Rattle.cli_commands.specs.Statuses.{CodeMeans}
use Rattle.cli_commands.specs.declared.ending.CommandEnd.TheVariants as ends

-- the status line alone
abbrev pub UsageEnds : EndsHow
UsageEnds end after said = (end ≡ ends.Usage) × SaysAlone end after said

-- what each exit status says of them
abbrev pub UsageMeans : Call → (code : ℕ) → Type 0
UsageMeans call code = CodeMeans call UsageEnds (2 ∷ 5 ∷ []) code
