use Rattle.base_io.proofs.Outboxes.{gathers_first, gathers_then}
use Rattle.text_print.proofs.numbers.write_marked.Goals as goal

pub returns-in-Fault : goal.returns-in-Fault
returns-in-Fault g c =
    gathers_first _ _ _ _ c.in-Fault.ensures

pub returns : goal.returns
returns g c =
    gathers_then _ _ _ _ _ _ c.in_default.ensures c.write_number.ensures
