use Rattle.std.proofs.Common.{refl}
use Rattle.base_io.proofs.Outboxes.{past_done, past_fault}
use Rattle.text_job.specs.JobText.{pair_line}
use Rattle.text_print.proofs.Pieces.{next_line_at}
use Rattle.text_print.proofs.head.write_pairs.Goals as goal

pub returns-in-Fault : goal.returns-in-Fault
returns-in-Fault g c =
    past_fault _ _ _ _ _ _ _ (next_line_at pair_line c.args.pairs.now c.loop-pair.pair-index _
    c.loop-pair-test.true)
    c.loop-pair.invariant c.in-Fault.ensures

pub returns-in-Fault-write_all : goal.returns-in-Fault-write_all
returns-in-Fault-write_all g c =
    past_fault _ _ _ _ _ _ _ refl
    (past_done _ _ _ _ _ _ _ (next_line_at pair_line c.args.pairs.now c.loop-pair.pair-index _
    c.loop-pair-test.true) c.loop-pair.invariant c.in_default.ensures) c.in-Fault-write_all.ensures

pub loop-pair-preserved : goal.loop-pair-preserved
loop-pair-preserved g c =
    past_done _ _ _ _ _ _ _ refl
    (past_done _ _ _ _ _ _ _ (next_line_at pair_line c.args.pairs.now c.loop-pair.pair-index _
    c.loop-pair-test.true) c.loop-pair.invariant c.in_default.ensures) c.in_default-write_all.ensures
