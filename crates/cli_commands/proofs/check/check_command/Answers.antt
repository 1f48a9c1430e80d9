use Rattle.cli_commands.proofs.CheckCommand.{unread_told}
use Rattle.cli_commands.proofs.check.check_command.Goals as goal

pub check_input-requires : goal.check_input-requires
check_input-requires g c =
    let it = c.in-Ok.ensures.is_input in
    record { job = it.text.is_job; count = it.text.nodes; traces = it.traces }

pub returns-in-Ok : goal.returns-in-Ok
returns-in-Ok g c = c.check_input.ensures _ c.in-Ok.ensures

pub returns-in-Err : goal.returns-in-Err
returns-in-Err g c =
    let says = rw (c.nothing.ensures, c.end_unread.ensures) at c.say.ensures in
    unread_told _ c.in-Err.fault _ _ c.say.result c.in-Err.ensures says
