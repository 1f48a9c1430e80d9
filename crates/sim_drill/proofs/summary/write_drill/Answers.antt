use Rattle.std.proofs.Common.{◌++◌}
use Rattle.sim_run.specs.RunText.{end_lines}
use Rattle.sim_drill.specs.Counting.{count_in}
use Rattle.sim_drill.specs.Summary.{count_lines, first_line}
use Rattle.sim_drill.proofs.SummaryText.{counts_fault, drill_written, first_fault}
use Rattle.sim_drill.proofs.summary.write_drill.Goals as goal

pub returns-in-Fault : goal.returns-in-Fault
returns-in-Fault g c = λ records most h.
    first_fault _ _ (first_line c.args.seed)
    (count_lines (count_in c.args.counts.now) ++ end_lines c.args.world.now.settings records most) c.in-Fault.ensures

pub returns-in-Fault-write_counts : goal.returns-in-Fault-write_counts
returns-in-Fault-write_counts g c = λ records most h.
    counts_fault _ _ _ (first_line c.args.seed) (count_lines (count_in c.args.counts.now))
    (end_lines c.args.world.now.settings records most) c.in_default.ensures c.in-Fault-write_counts.ensures

pub returns : goal.returns
returns g c = λ records most h.
    drill_written _ _ _ _ (first_line c.args.seed) (count_lines (count_in c.args.counts.now))
    (end_lines c.args.world.now.settings records most) c.write_nodes.result c.in_default.ensures
    c.in_default-write_counts.ensures (c.write_nodes.ensures records most h)
