use Rattle.std.proofs.Common.{refl}
use Rattle.base_io.proofs.Outboxes.{nothing_yet, past_done, past_fault, past_last}
use Rattle.base_text.proofs.digit_writer.write_bytes.Goals as goal

pub returns-in-Fault : goal.returns-in-Fault
returns-in-Fault g c =
    past_fault _ _ _ _ _ _ _ refl (nothing_yet _ _) c.in-Fault.ensures

pub returns : goal.returns
returns g c =
    past_last _ _ _ _ _ _ (past_done _ _ _ _ _ _ _ refl (nothing_yet _ _) c.in_default.ensures)
    c.write_digits.ensures
