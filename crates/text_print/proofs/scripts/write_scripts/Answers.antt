use Rattle.base_io.proofs.Outboxes.{past_done, past_fault}
use Rattle.text_job.specs.JobText.{script_lines}
use Rattle.text_print.proofs.Pieces.{next_part}
use Rattle.text_print.proofs.scripts.write_scripts.Goals as goal

pub returns-in-Fault : goal.returns-in-Fault
returns-in-Fault g c =
    past_fault _ _ _ _ _ _ _ (next_part script_lines c.args.scripts.now c.loop-script.script-index
    c.script-item.result c.loop-script-test.true c.script-item.is)
    c.loop-script.invariant c.in-Fault.ensures

pub loop-script-preserved : goal.loop-script-preserved
loop-script-preserved g c =
    past_done _ _ _ _ _ _ _ (next_part script_lines c.args.scripts.now c.loop-script.script-index
    c.script-item.result c.loop-script-test.true c.script-item.is)
    c.loop-script.invariant c.in_default.ensures
