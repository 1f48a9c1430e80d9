use Rattle.base_io.proofs.Outboxes.{nothing_yet, past_done, past_fault, all_gathered}
use Rattle.sim_drill.specs.Counting.{count_in}
use Rattle.sim_drill.specs.Summary.{all_counted}
use Rattle.sim_drill.proofs.SummaryText.{next_line, no_line}
use Rattle.sim_drill.proofs.summary.write_counts.Goals as goal

pub loop-counted-init : goal.loop-counted-init
loop-counted-init g c = record { said = nothing_yet _ _ }

pub returns-in-Fault : goal.returns-in-Fault
unfolding all_counted
returns-in-Fault g c =
    past_fault _ _ _ _ _ _ _
    (next_line (count_in c.args.counts.now) c.loop-counted.counted-index _ c.loop-counted-test.true)
    c.loop-counted.invariant.said (rw c.of.ensures at c.in-Fault.ensures)

pub loop-counted-preserved : goal.loop-counted-preserved
unfolding all_counted
loop-counted-preserved g c = record {
  said = past_done _ _ _ _ _ _ _
      (next_line (count_in c.args.counts.now) c.loop-counted.counted-index _ c.loop-counted-test.true)
      c.loop-counted.invariant.said (rw c.of.ensures at c.in_default.ensures);
}

pub returns : goal.returns
returns g c =
    all_gathered _ _ _ _ (no_line (count_in c.args.counts.now) c.loop-counted.counted-index c.loop-counted-test.false)
    c.loop-counted.invariant.said
