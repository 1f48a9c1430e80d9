-- What each exit status of the top call says, command by command, and what a call leaves alone.
use Rattle.std.specs.Prelude.{◌≡◌, ℕ, List}
use Rattle.base_text.specs.Lines.{Word}
use Rattle.cli_commands.specs.Outsides.{Call}
use Rattle.cli_commands.specs.Commands.{Asks, AsksNothing}
use Rattle.cli_commands.specs.WorldCommand.{WorldCompletes, WorldMeans}
use Rattle.cli_commands.specs.UpgradeCommand.{UpgradeCompletes, UpgradeMeans}
use Rattle.cli_commands.specs.CheckCommand.{CheckCompletes, CheckMeans}
use Rattle.cli_commands.specs.LaunchCommand.{LaunchCompletes, LaunchMeans}
use Rattle.cli_commands.specs.NodeCommand.{NodeCompletes, NodeMeans}
use Rattle.cli_commands.specs.DrillCommand.{DrillCompletes, DrillMeans}
use Rattle.cli_commands.specs.NoCommand.{UsageMeans}
use Rattle.cli_commands.specs.declared.words.Command.TheVariants as commands

-- what each exit status says of the call, by its words
pub record StatusMeans (call : Call) (code : ℕ) : Type 0 where
  pub world : Asks call.words commands.World → WorldMeans call code
  pub upgrade : Asks call.words commands.Upgrade → UpgradeMeans call code
  pub check : Asks call.words commands.Check → CheckMeans call code
  pub launch : (port : ℕ) → Asks call.words (commands.Launch port) → LaunchMeans call port code
  pub node : (rank port : ℕ) → Asks call.words (commands.Node rank port) → NodeMeans call rank port code
  pub drill : (seed : ℕ) → Asks call.words (commands.Drill seed) → DrillMeans call seed code
  pub usage : AsksNothing call.words → UsageMeans call code

-- the exit statuses that the call may have where nothing fails
pub record IsComplete (call : Call) (code : ℕ) : Type 0 where
  pub world : Asks call.words commands.World → WorldCompletes call code
  pub upgrade : Asks call.words commands.Upgrade → UpgradeCompletes call code
  pub check : Asks call.words commands.Check → CheckCompletes call code
  pub launch : (port : ℕ) → Asks call.words (commands.Launch port) → LaunchCompletes call port code
  pub node : (rank port : ℕ) → Asks call.words (commands.Node rank port) → NodeCompletes call rank port code
  pub drill : (seed : ℕ) → Asks call.words (commands.Drill seed) → DrillCompletes call code

-- what is seen of the outside and stands after the call as before it, by the words: of the spawner, unless they are
-- those of `launch`; of link and clock, unless they are those of `node`; and of the source, where they are those of
-- `drill`, or of no command
pub record LeavesAlone (call : Call) : Type 0 where
  pub spawner : ((port : ℕ) → Asks call.words (commands.Launch port) → ⊥)
      → call.after.spawner ≡ call.before.spawner
  pub devices : ((rank port : ℕ) → Asks call.words (commands.Node rank port) → ⊥)
      → call.after.devices ≡ call.before.devices
  pub drill : (seed : ℕ) → Asks call.words (commands.Drill seed) → call.after.source ≡ call.before.source
  pub usage : AsksNothing call.words → call.after.source ≡ call.before.source

-- all of that
pub record IsSaid (call : Call) (code : ℕ) : Type 0 where
  pub means : StatusMeans call code
  pub complete : IsComplete call code
  pub leaves : LeavesAlone call

-- the words are those of `node`, with this rank and port
abbrev pub AsksNode : List Word → (rank port : ℕ) → Type 0
AsksNode words rank port = Asks words (commands.Node rank port)
