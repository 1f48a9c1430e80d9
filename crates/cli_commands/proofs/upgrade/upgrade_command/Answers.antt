use Rattle.cli_commands.proofs.JobRead.{unread_told}
use Rattle.cli_commands.proofs.UpgradeCommand.{upgrade_none, weak_upgrade}
use Rattle.cli_commands.proofs.upgrade.upgrade_command.Goals as goal

pub returns-in-Ok : goal.returns-in-Ok
returns-in-Ok g c = c.write_upgraded.ensures _ c.in-Ok.ensures

pub returns-in-Err : goal.returns-in-Err
returns-in-Err g c =
    let says = rw c.nothing.ensures at c.say.ensures in
    unread_told _ _ _ _ c.in-Err.end c.say.result (weak_upgrade _) (upgrade_none _) c.in-Err.ensures says
