use Rattle.sim_drill.specs.Rounds.{drill_job}
use Rattle.sim_drill.specs.Summary.{drill_lines}
use Rattle.cli_commands.proofs.DrillCommand.{drill_runs}
use Rattle.cli_commands.proofs.RunTold.{run_told}
use Rattle.cli_commands.proofs.drill.drill_command.Goals as goal

pub returns : goal.returns
returns g c =
    let seed = c.args.seed in
    run_told _ (drill_job seed) (drill_lines seed) _ _ _ c.run_drill-run.result c.say_run.result
    (drill_runs seed c.run_drill-run.ensures.laws c.run_drill-run.ensures.calm) c.run_drill-run.ensures.run
    c.say_run.ensures
