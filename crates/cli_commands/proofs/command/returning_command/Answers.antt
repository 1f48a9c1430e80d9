-- Each command that returns, and the words of none.
use Rattle.std.proofs.Common.{Some, None, refl}
use Rattle.cli_commands.specs.declared.ending.CommandEnd.TheVariants as ends
use Rattle.cli_commands.specs.declared.words.Command.TheVariants as commands
use Rattle.cli_commands.proofs.Closing.{asks_for, ends_as}
use Rattle.cli_commands.proofs.LastLine.{alone, says_alone}
use Rattle.cli_commands.proofs.NoCommand.{weak_usage}
use Rattle.cli_commands.proofs.command.returning_command.Goals as goal

pub returns-in-Some-World : goal.returns-in-Some-World
returns-in-Some-World g c =
    ends_as c.args.asked (Some commands.World) _ _ _ _ c.world_command.result
    (asks_for c.args.asked c.in-Some-World.field-0 commands.World c.in-Some-World.is
    (rw c.in-Some-World.is at c.in-Some-World.field-0-is))
    c.world_command.ensures (refl, refl)

pub returns-in-Some-Upgrade : goal.returns-in-Some-Upgrade
returns-in-Some-Upgrade g c =
    ends_as c.args.asked (Some commands.Upgrade) _ _ _ _ c.upgrade_command.result
    (asks_for c.args.asked c.in-Some-Upgrade.field-0 commands.Upgrade c.in-Some-Upgrade.is
    (rw c.in-Some-Upgrade.is at c.in-Some-Upgrade.field-0-is))
    c.upgrade_command.ensures
    (refl, refl)

pub returns-in-Some-Check : goal.returns-in-Some-Check
returns-in-Some-Check g c =
    ends_as c.args.asked (Some commands.Check) _ _ _ _ c.check_command.result
    (asks_for c.args.asked c.in-Some-Check.field-0 commands.Check c.in-Some-Check.is
    (rw c.in-Some-Check.is at c.in-Some-Check.field-0-is))
    c.check_command.ensures (refl, refl)

pub returns-in-Some-Launch : goal.returns-in-Some-Launch
returns-in-Some-Launch g c =
    ends_as c.args.asked (Some (commands.Launch c.in-Some-Launch.port)) _ _ _ _ c.launch_command.result
    (asks_for c.args.asked c.in-Some-Launch.field-0 (commands.Launch c.in-Some-Launch.port) c.in-Some-Launch.is
    (rw c.in-Some-Launch.is at c.in-Some-Launch.field-0-is))
    c.launch_command.ensures refl

pub returns-in-Some-Drill : goal.returns-in-Some-Drill
returns-in-Some-Drill g c =
    ends_as c.args.asked (Some (commands.Drill c.in-Some-Drill.seed)) _ _ _ _ c.drill_command.result
    (asks_for c.args.asked c.in-Some-Drill.field-0 (commands.Drill c.in-Some-Drill.seed) c.in-Some-Drill.is
    (rw c.in-Some-Drill.is at c.in-Some-Drill.field-0-is))
    c.drill_command.ensures (refl, refl, refl)

pub returns-in-None : goal.returns-in-None
returns-in-None g c =
    let says = rw c.nothing.ensures at c.say.ensures in
    ends_as c.args.asked None _ _ _ _ c.say.result (cc)
    (says_alone _ _ _ ends.Usage c.say.result weak_usage tt (refl, alone ends.Usage) says) (refl, refl, refl)
