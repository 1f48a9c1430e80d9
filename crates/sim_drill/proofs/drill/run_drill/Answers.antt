use Rattle.std.proofs.Common.{◌≡◌, subst}
use Rattle.wire_message.specs.Parameters.{Parameters}
use Rattle.sim_run.specs.RunText.{any_violation, run_most, run_records}
use Rattle.sim_run.proofs.LinesWritten.{no_lines_yet}
use Rattle.sim_drill.specs.Rounds.{drill_job}
use Rattle.sim_drill.specs.Summary.{drill_lines}
use Rattle.sim_drill.proofs.DrillLaws.{drill_laws}
use Rattle.sim_drill.proofs.drill.run_drill.Goals as goal

pub returns-in_default-clause-run : goal.returns-in_default-clause-run
returns-in_default-clause-run g c = (drill_lines c.args.seed, no_lines_yet _ _)

pub returns-in_default-clause-laws : goal.returns-in_default-clause-laws
returns-in_default-clause-laws g c = drill_laws c.args.seed

pub returns-in_default-new-clause-run : goal.returns-in_default-new-clause-run
returns-in_default-new-clause-run g c = (drill_lines c.args.seed, no_lines_yet _ _)

pub returns-in_default-new-clause-laws : goal.returns-in_default-new-clause-laws
returns-in_default-new-clause-laws g c = drill_laws c.args.seed

pub returns-in-Done-clause-run : goal.returns-in-Done-clause-run
returns-in-Done-clause-run g c =
    let job = drill_job c.args.seed in
    let ran = c.in-Done.ensures.world in
    record {
      lines = c.in-Done.ensures.lines;
      violated_is =
          subst (λ (s : Parameters). c.any_violation-violated.result ≡ any_violation (run_records job) 0 s.nodes)
          ran.settings (c.any_violation-violated.ensures (run_records job) (run_most job) ran.stands);
      stands = ran;
    }

pub returns-in-Done-clause-laws : goal.returns-in-Done-clause-laws
returns-in-Done-clause-laws g c = drill_laws c.args.seed

pub returns-in-Fault-clause-laws : goal.returns-in-Fault-clause-laws
returns-in-Fault-clause-laws g c = drill_laws c.args.seed

pub returns-clause-laws : goal.returns-clause-laws
returns-clause-laws g c = drill_laws c.args.seed
