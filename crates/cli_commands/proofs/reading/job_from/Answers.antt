use Rattle.cli_commands.proofs.reading.job_from.Goals as goal

pub returns-in-Ok : goal.returns-in-Ok
returns-in-Ok g c = c.in-Ok.ensures.0

pub returns-in-Err : goal.returns-in-Err
returns-in-Err g c = c.in-Err.ensures
