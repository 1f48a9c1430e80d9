use Rattle.std.proofs.Common.{refl}
use Rattle.base_io.proofs.Outboxes.{past_done, past_fault}
use Rattle.text_print.specs.Writing.{number_line}
use Rattle.text_print.proofs.Pieces.{next_line}
use Rattle.text_print.proofs.head.write_number_lines.Goals as goal

pub returns-in-Fault : goal.returns-in-Fault
returns-in-Fault g c =
    past_fault _ _ _ _ _ _ _ (next_line number_line c.args.lines.now c.loop-line.line-index c.line-item.result
    c.loop-line-test.true c.line-item.is)
    c.loop-line.invariant c.in-Fault.ensures

pub returns-in-Fault-write_all : goal.returns-in-Fault-write_all
returns-in-Fault-write_all g c =
    past_fault _ _ _ _ _ _ _ refl
    (past_done _ _ _ _ _ _ _ (next_line number_line c.args.lines.now c.loop-line.line-index c.line-item.result
    c.loop-line-test.true c.line-item.is) c.loop-line.invariant c.in_default.ensures) c.in-Fault-write_all.ensures

pub loop-line-preserved : goal.loop-line-preserved
loop-line-preserved g c =
    past_done _ _ _ _ _ _ _ refl
    (past_done _ _ _ _ _ _ _ (next_line number_line c.args.lines.now c.loop-line.line-index c.line-item.result
    c.loop-line-test.true c.line-item.is) c.loop-line.invariant c.in_default.ensures)
    c.in_default-write_all.ensures
