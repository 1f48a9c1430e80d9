use Rattle.std.proofs.Common.{refl}
use Rattle.base_io.proofs.Outboxes.{nothing_yet, past_done, past_fault, past_last}
use Rattle.text_print.proofs.actions.write_replying.Goals as goal

pub returns-in-Fault : goal.returns-in-Fault
returns-in-Fault g c =
    past_fault _ _ _ _ _ _ _ refl (nothing_yet _ _) (rw c.name.ensures at c.in-Fault.ensures)

pub returns-in-Fault-write_all : goal.returns-in-Fault-write_all
returns-in-Fault-write_all g c =
    past_fault _ _ _ _ _ _ _ refl
    (past_done _ _ _ _ _ _ _ refl (nothing_yet _ _) (rw c.name.ensures at c.in_default.ensures))
    c.in-Fault-write_all.ensures

pub returns : goal.returns
returns g c =
    past_last _ _ _ _ _ _
    (past_done _ _ _ _ _ _ _ refl
    (past_done _ _ _ _ _ _ _ refl (nothing_yet _ _) (rw c.name.ensures at c.in_default.ensures))
    c.in_default-write_all.ensures)
    c.write_reply.ensures
