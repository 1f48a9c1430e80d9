use Rattle.base_io.proofs.Outboxes.{nothing_yet, past_done, past_fault, past_last}
use Rattle.text_print.proofs.Pieces.{collect_parts}
use Rattle.text_print.proofs.head.write_collect.Goals as goal

pub returns-in-Fault : goal.returns-in-Fault
returns-in-Fault g c =
    past_fault _ _ _ _ _ _ _ (collect_parts c.args.area c.in-Some.area c.in-Some.is) (nothing_yet _ _)
    c.in-Fault.ensures

pub returns : goal.returns
returns g c =
    past_last _ _ _ _ _ _
    (past_done _ _ _ _ _ _ _ (collect_parts c.args.area c.in-Some.area c.in-Some.is) (nothing_yet _ _)
    c.in_default-write.ensures) c.write_all.ensures
