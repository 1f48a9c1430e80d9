use Rattle.std.proofs.Common.{ap, ◌∙◌}
use Rattle.wire_message.specs.Parameters.{Parameters}
use Rattle.sim_run.specs.RunText.{any_violation, run_records, run_most}
use Rattle.sim_run.proofs.LinesWritten.{no_lines_yet}
use Rattle.sim_run.proofs.RunLaws.{run_laws}
use Rattle.sim_run.proofs.run.run_job.Goals as goal

pub returns-in_default : goal.returns-in_default
returns-in_default g c = record { run = (_, no_lines_yet _ _); laws = run_laws c.args.script.now c.requires }

pub returns-in-Done-clause-run : goal.returns-in-Done-clause-run
returns-in-Done-clause-run g c =
    let job = c.args.script.now in
    let stands = c.in-Done.ensures.world in
    record {
      lines = c.in-Done.ensures.lines;
      violated_is = c.any_violation-violated.ensures (run_records job) (run_most job) stands.stands
          ∙ ap (λ (settings : Parameters). any_violation (run_records job) 0 settings.nodes) stands.settings;
      stands = stands;
    }
