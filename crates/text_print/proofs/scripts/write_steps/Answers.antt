use Rattle.std.proofs.Common.{refl}
use Rattle.base_io.proofs.Outboxes.{past_done, past_fault}
use Rattle.text_steps.specs.Scripts.{step_text}
use Rattle.text_print.proofs.Pieces.{next_line}
use Rattle.text_print.proofs.scripts.write_steps.Goals as goal

pub returns-in-Fault : goal.returns-in-Fault
returns-in-Fault g c =
    past_fault _ _ _ _ _ _ _ (next_line step_text c.args.steps.now c.loop-step.step-index c.step-item.result
    c.loop-step-test.true c.step-item.is)
    c.loop-step.invariant c.in-Fault.ensures

pub returns-in-Fault-write_all : goal.returns-in-Fault-write_all
returns-in-Fault-write_all g c =
    past_fault _ _ _ _ _ _ _ refl
    (past_done _ _ _ _ _ _ _ (next_line step_text c.args.steps.now c.loop-step.step-index c.step-item.result
    c.loop-step-test.true c.step-item.is) c.loop-step.invariant c.in_default.ensures) c.in-Fault-write_all.ensures

pub loop-step-preserved : goal.loop-step-preserved
loop-step-preserved g c =
    past_done _ _ _ _ _ _ _ refl
    (past_done _ _ _ _ _ _ _ (next_line step_text c.args.steps.now c.loop-step.step-index c.step-item.result
    c.loop-step-test.true c.step-item.is) c.loop-step.invariant c.in_default.ensures)
    c.in_default-write_all.ensures
