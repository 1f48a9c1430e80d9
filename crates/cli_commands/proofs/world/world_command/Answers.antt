use Rattle.cli_commands.proofs.JobRead.{unread_told}
use Rattle.cli_commands.proofs.WorldCommand.{weak_world, world_none}
use Rattle.cli_commands.proofs.world.world_command.Goals as goal

pub returns-in-Ok : goal.returns-in-Ok
returns-in-Ok g c = c.run_read.ensures _ c.in-Ok.ensures

pub returns-in-Err : goal.returns-in-Err
returns-in-Err g c =
    let says = rw c.nothing.ensures at c.say.ensures in
    unread_told _ _ _ _ c.in-Err.end c.say.result (weak_world _) (world_none _) c.in-Err.ensures says
