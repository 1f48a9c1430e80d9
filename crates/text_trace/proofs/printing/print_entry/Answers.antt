use Rattle.std.proofs.Common.{[], refl}
use Rattle.base_io.proofs.Outboxes.{gathers_first, past_done, past_fault, past_last}
use Rattle.text_trace.proofs.Writing.{entry_prefix}
use Rattle.text_trace.proofs.printing.print_entry.Goals as goal

pub returns-in-Fault : goal.returns-in-Fault
returns-in-Fault g c = gathers_first _ _ [] _ c.in-Fault.ensures.gathers

pub returns-in-Fault-write_got : goal.returns-in-Fault-write_got
returns-in-Fault-write_got g c =
    let prefix = entry_prefix _ _ _ _ _ _ c.args.entry.now _ _ c.from.ensures c.word.ensures c.in_default.ensures.gathers
    c.put.ensures.gathers c.put_number.ensures.gathers c.put_number-2.ensures.gathers c.put-2.ensures.gathers in
    past_fault _ _ _ _ _ _ _ refl prefix c.in-Fault-write_got.ensures

pub returns : goal.returns
returns g c =
    let prefix = entry_prefix _ _ _ _ _ _ c.args.entry.now _ _ c.from.ensures c.word.ensures c.in_default.ensures.gathers
    c.put.ensures.gathers c.put_number.ensures.gathers c.put_number-2.ensures.gathers c.put-2.ensures.gathers in
    past_last _ _ _ _ _ _ (past_done _ _ _ _ _ _ _ refl prefix c.in_default-write_got.ensures) c.write_all.ensures
