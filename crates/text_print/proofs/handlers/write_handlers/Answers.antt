use Rattle.base_io.proofs.Outboxes.{past_done, past_fault}
use Rattle.text_job.specs.JobText.{handler_lines}
use Rattle.text_print.proofs.Pieces.{next_part}
use Rattle.text_print.proofs.handlers.write_handlers.Goals as goal

pub returns-in-Fault : goal.returns-in-Fault
returns-in-Fault g c =
    past_fault _ _ _ _ _ _ _ (next_part handler_lines c.args.handlers.now c.loop-handler.handler-index
    c.handler-item.result c.loop-handler-test.true c.handler-item.is)
    c.loop-handler.invariant c.in-Fault.ensures

pub loop-handler-preserved : goal.loop-handler-preserved
loop-handler-preserved g c =
    past_done _ _ _ _ _ _ _ (next_part handler_lines c.args.handlers.now c.loop-handler.handler-index
    c.handler-item.result c.loop-handler-test.true c.handler-item.is)
    c.loop-handler.invariant c.in_default.ensures
