use Rattle.std.proofs.Common.{[]}
use Rattle.base_io.proofs.Outboxes.{gathers_first, gathers_more}
use Rattle.base_text.proofs.number_writer.write_number.Goals as goal

pub returns-in-Fault : goal.returns-in-Fault
returns-in-Fault g c =
    gathers_first _ _ [] _ c.in-Fault.ensures.gathers

pub returns : goal.returns
returns g c =
    gathers_more _ _ _ [] _ c.in_default.ensures.gathers c.put_number.ensures.gathers
