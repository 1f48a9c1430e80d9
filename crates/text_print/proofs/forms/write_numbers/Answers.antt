use Rattle.std.proofs.Common.{refl, decimal}
use Rattle.base_io.proofs.Outboxes.{past_done, past_fault}
use Rattle.text_print.proofs.Pieces.{next_spaced}
use Rattle.text_print.proofs.forms.write_numbers.Goals as goal

pub returns-in-Fault : goal.returns-in-Fault
returns-in-Fault g c =
    past_fault _ _ _ _ _ _ _ (next_spaced (λ n. decimal n) c.args.numbers.now c.loop-number.number-index 0
    c.loop-number-test.true)
    c.loop-number.invariant c.in-Fault.ensures

pub returns-in-Fault-write_number : goal.returns-in-Fault-write_number
returns-in-Fault-write_number g c =
    past_fault _ _ _ _ _ _ _ refl
    (past_done _ _ _ _ _ _ _ (next_spaced (λ n. decimal n) c.args.numbers.now c.loop-number.number-index 0
    c.loop-number-test.true) c.loop-number.invariant c.in_default.ensures) (rw c.from.ensures at
    c.in-Fault-write_number.ensures)

pub loop-number-preserved : goal.loop-number-preserved
loop-number-preserved g c =
    past_done _ _ _ _ _ _ _ refl
    (past_done _ _ _ _ _ _ _ (next_spaced (λ n. decimal n) c.args.numbers.now c.loop-number.number-index 0
    c.loop-number-test.true) c.loop-number.invariant c.in_default.ensures) (rw c.from.ensures at
    c.in_default-write_number.ensures)
