use Rattle.std.proofs.Common.{refl}
use Rattle.cli_commands.proofs.JobRead.{unread_told}
use Rattle.cli_commands.proofs.LaunchCommand.{launch_none, weak_launch}
use Rattle.cli_commands.proofs.launch.launch_command.Goals as goal

pub launch_read-requires : goal.launch_read-requires
launch_read-requires g c = c.in-Ok.ensures.0.text.is_job

pub returns-in-Ok : goal.returns-in-Ok
returns-in-Ok g c = c.launch_read.ensures _ c.in-Ok.ensures

pub returns-in-Err : goal.returns-in-Err
returns-in-Err g c =
    let says = rw c.nothing.ensures at c.say.ensures in
    unread_told _ _ _ _ c.in-Err.end c.say.result (weak_launch c.args.at.port _ _)
    (launch_none c.args.at.port _ _ refl) c.in-Err.ensures says
