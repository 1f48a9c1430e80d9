use Rattle.std.proofs.Common.{refl}
use Rattle.base_io.proofs.Outboxes.{nothing_yet, past_done, past_fault, past_last}
use Rattle.text_trace.proofs.HeadParts.{head_parts}
use Rattle.text_trace.proofs.printing.print_head.Goals as goal

pub returns-in-Fault : goal.returns-in-Fault
returns-in-Fault g c =
    let parts = head_parts c.args.version c.from.result c.args.job c.args.rank c.args.rank c.from.ensures refl in
    past_fault _ _ _ _ _ _ _ parts (nothing_yet _ _) c.in-Fault.ensures

pub returns-in-Fault-write_setting : goal.returns-in-Fault-write_setting
returns-in-Fault-write_setting g c =
    let parts = head_parts c.args.version c.from.result c.args.job c.args.rank c.args.rank c.from.ensures refl in
    past_fault _ _ _ _ _ _ _ refl (past_done _ _ _ _ _ _ _ parts (nothing_yet _ _) c.in_default.ensures)
    c.in-Fault-write_setting.ensures

pub returns : goal.returns
returns g c =
    let parts = head_parts c.args.version c.from.result c.args.job c.args.rank c.from-2.result c.from.ensures
    c.from-2.ensures in
    past_last _ _ _ _ _ _
    (past_done _ _ _ _ _ _ _ refl (past_done _ _ _ _ _ _ _ parts (nothing_yet _ _)
    c.in_default.ensures) c.in_default-write_setting.ensures) c.write_setting-3.ensures
