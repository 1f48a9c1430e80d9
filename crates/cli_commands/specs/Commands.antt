-- The commands, and the words of their ends.
use Rattle.std.specs.Prelude.{◌≡◌, ℕ, ◌<◌, ◌≤◌, ◌^◌, List, [], ◌∷◌, Bool, if◌then◌else◌, Option, Some, None, codes}
use Rattle.std.specs.Prelude.{decimal}
use Rattle.base_text.specs.declared.why.LineWhy.{LineWhy}
use Rattle.base_text.specs.declared.why.LineWhy.TheVariants as why
use Rattle.base_text.specs.Lines.{Word}
use Rattle.base_text.specs.LineTexts.{Line}
use Rattle.cli_commands.specs.declared.ending.CommandEnd.{CommandEnd}
use Rattle.cli_commands.specs.declared.ending.CommandEnd.TheVariants as ends
use Rattle.cli_commands.specs.declared.words.Command.{Command}
use Rattle.cli_commands.specs.declared.words.Command.TheVariants as commands

-- ---- words

-- the words of a command
abbrev pub command_words : Command → List Word
command_words commands.World = codes "world" ∷ []
command_words commands.Upgrade = codes "upgrade" ∷ []
command_words commands.Check = codes "check" ∷ []
command_words (commands.Launch port) = codes "launch" ∷ decimal port ∷ []
command_words (commands.Node rank port) = codes "node" ∷ decimal rank ∷ decimal port ∷ []
command_words (commands.Drill seed) = codes "drill" ∷ decimal seed ∷ []

-- the command's numbers are in range
abbrev pub IsCommand : Command → Type 0
IsCommand commands.World = Unit {0}
IsCommand commands.Upgrade = Unit {0}
IsCommand commands.Check = Unit {0}
IsCommand (commands.Launch port) = (1024 ≤ port) × (port ≤ 65472)
IsCommand (commands.Node rank port) = (rank ≤ 255) × (1024 ≤ port) × (port ≤ 65472)
IsCommand (commands.Drill seed) = seed < 2 ^ 64

-- the words are those of the command
pub record Asks (words : List Word) (command : Command) : Type 0 where
  pub in_range : IsCommand command
  pub words_are : words ≡ command_words command

-- the words are those of no command
abbrev pub AsksNothing : List Word → Type 0
AsksNothing words = (command : Command) → Asks words command → ⊥

-- what the words ask for
abbrev pub IsAsked : List Word → Option Command → Type 0
IsAsked words (Some command) = Asks words command
IsAsked words None = AsksNothing words

-- ---- ends

-- the exit status of an end
abbrev pub code_of : CommandEnd → ℕ
code_of ends.Done = 0
code_of ends.Violations = 1
code_of ends.Usage = 2
code_of (ends.BadJob line reason) = 3
code_of ends.ReadFault = 4
code_of ends.WriteFault = 5
code_of ends.LinkFault = 6
code_of ends.SpawnFault = 7
code_of ends.NoMemory = 8
code_of ends.Stuck = 9
code_of ends.JournalFull = 10
code_of (ends.NotARun node entry) = 11
code_of (ends.Child rank code) = 12

-- the word of a reason why bytes are no job's text
abbrev pub why_word : LineWhy → Word
why_word why.Size = codes "size"
why_word why.Text = codes "text"
why_word why.Form = codes "form"
why_word why.Value = codes "value"
why_word why.Entry = codes "entry"
why_word why.Count = codes "count"
why_word why.Early = codes "early"
why_word why.After = codes "after"

-- the words of the last line of an end; that of a failed write is never written
abbrev pub status_line : CommandEnd → Line
status_line ends.Done = codes "status" ∷ codes "0" ∷ codes "ok" ∷ []
status_line ends.Violations = codes "status" ∷ codes "1" ∷ codes "violations" ∷ []
status_line ends.Usage = codes "status" ∷ codes "2" ∷ codes "usage" ∷ []
status_line (ends.BadJob line reason) =
    codes "status" ∷ codes "3" ∷ codes "bad-job" ∷ decimal line ∷ why_word reason ∷ []
status_line ends.ReadFault = codes "status" ∷ codes "4" ∷ codes "read-fault" ∷ []
status_line ends.WriteFault = codes "status" ∷ codes "5" ∷ codes "write-fault" ∷ []
status_line ends.LinkFault = codes "status" ∷ codes "6" ∷ codes "link-fault" ∷ []
status_line ends.SpawnFault = codes "status" ∷ codes "7" ∷ codes "spawn-fault" ∷ []
status_line ends.NoMemory = codes "status" ∷ codes "8" ∷ codes "no-memory" ∷ []
status_line ends.Stuck = codes "status" ∷ codes "9" ∷ codes "stuck" ∷ []
status_line ends.JournalFull = codes "status" ∷ codes "10" ∷ codes "journal-full" ∷ []
status_line (ends.NotARun node entry) =
    codes "status" ∷ codes "11" ∷ codes "not-a-run" ∷ decimal node ∷ decimal entry ∷ []
status_line (ends.Child rank code) =
    codes "status" ∷ codes "12" ∷ codes "child" ∷ decimal rank ∷ decimal code ∷ []

-- the end of a run that came to its end
abbrev pub end_of : (violated : Bool) → CommandEnd
end_of violated = if violated then ends.Violations else ends.Done
