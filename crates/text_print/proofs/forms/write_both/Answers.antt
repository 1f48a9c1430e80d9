use Rattle.std.proofs.Common.{refl}
use Rattle.base_io.proofs.Outboxes.{gathers_first, nothing_yet, past_done, past_last}
use Rattle.text_print.proofs.forms.write_both.Goals as goal

pub returns-in-Fault : goal.returns-in-Fault
returns-in-Fault g c = gathers_first _ _ _ _ c.in-Fault.ensures

pub returns : goal.returns
returns g c =
    past_last _ _ _ _ _ _ (past_done _ _ _ _ _ _ _ refl (nothing_yet _ _) c.in_default.ensures)
    c.write_ranges-2.ensures
