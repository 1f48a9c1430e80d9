use Rattle.std.proofs.Common.{refl, pos}
use Rattle.base_io.proofs.Outboxes.{past_done, past_fault}
use Rattle.text_calls.specs.Kinds.{operand_word}
use Rattle.text_calls.specs.declared.values.Operand.TheVariants as operand
use Rattle.text_print.proofs.Pieces.{next_spaced}
use Rattle.text_print.proofs.forms.write_operands.Goals as goal

pub returns-in-Fault : goal.returns-in-Fault
returns-in-Fault g c =
    past_fault _ _ _ _ _ _ _ (next_spaced operand_word c.args.operands.now c.loop-operand.operand-index
    (operand.Number (pos 0)) c.loop-operand-test.true)
    c.loop-operand.invariant c.in-Fault.ensures

pub returns-in-Fault-write_operand : goal.returns-in-Fault-write_operand
returns-in-Fault-write_operand g c =
    past_fault _ _ _ _ _ _ _ refl
    (past_done _ _ _ _ _ _ _ (next_spaced operand_word c.args.operands.now c.loop-operand.operand-index _
    c.loop-operand-test.true) c.loop-operand.invariant c.in_default.ensures) c.in-Fault-write_operand.ensures

pub loop-operand-preserved : goal.loop-operand-preserved
loop-operand-preserved g c =
    past_done _ _ _ _ _ _ _ refl
    (past_done _ _ _ _ _ _ _ (next_spaced operand_word c.args.operands.now c.loop-operand.operand-index _
    c.loop-operand-test.true) c.loop-operand.invariant c.in_default.ensures) c.in_default-write_operand.ensures
