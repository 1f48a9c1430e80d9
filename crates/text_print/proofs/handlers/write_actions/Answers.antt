use Rattle.std.proofs.Common.{refl}
use Rattle.base_io.proofs.Outboxes.{past_done, past_fault}
use Rattle.text_steps.specs.Bodies.{action_text}
use Rattle.text_print.proofs.Pieces.{next_line}
use Rattle.text_print.proofs.handlers.write_actions.Goals as goal

pub returns-in-Fault : goal.returns-in-Fault
returns-in-Fault g c =
    past_fault _ _ _ _ _ _ _ (next_line action_text c.args.actions.now c.loop-action.action-index
    c.action-item.result c.loop-action-test.true c.action-item.is)
    c.loop-action.invariant c.in-Fault.ensures

pub returns-in-Fault-write_all : goal.returns-in-Fault-write_all
returns-in-Fault-write_all g c =
    past_fault _ _ _ _ _ _ _ refl
    (past_done _ _ _ _ _ _ _ (next_line action_text c.args.actions.now c.loop-action.action-index
    c.action-item.result c.loop-action-test.true c.action-item.is) c.loop-action.invariant c.in_default.ensures)
    c.in-Fault-write_all.ensures

pub loop-action-preserved : goal.loop-action-preserved
loop-action-preserved g c =
    past_done _ _ _ _ _ _ _ refl
    (past_done _ _ _ _ _ _ _ (next_line action_text c.args.actions.now c.loop-action.action-index
    c.action-item.result c.loop-action-test.true c.action-item.is) c.loop-action.invariant c.in_default.ensures)
    c.in_default-write_all.ensures
