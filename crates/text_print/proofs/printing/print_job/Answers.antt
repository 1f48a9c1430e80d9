use Rattle.std.proofs.Common.{refl}
use Rattle.base_io.proofs.Outboxes.{nothing_yet, past_done, past_fault, past_last}
use Rattle.text_print.proofs.Pieces.{text_parts}
use Rattle.text_print.proofs.printing.print_job.Goals as goal

pub returns-in-Fault : goal.returns-in-Fault
returns-in-Fault g c =
    past_fault _ _ _ _ _ _ _ (text_parts c.args.job.now)
    (nothing_yet _ _)
    c.in-Fault.ensures

pub returns-in-Fault-write_pairs : goal.returns-in-Fault-write_pairs
returns-in-Fault-write_pairs g c =
    past_fault _ _ _ _ _ _ _ refl
    (past_done _ _ _ _ _ _ _ (text_parts c.args.job.now)
    (nothing_yet _ _)
    c.in_default.ensures)
    (rw c.pairs.ensures at c.in-Fault-write_pairs.ensures)

pub returns-in-Fault-write_atomics : goal.returns-in-Fault-write_atomics
returns-in-Fault-write_atomics g c =
    past_fault _ _ _ _ _ _ _ refl
    (past_done _ _ _ _ _ _ _ refl
    (past_done _ _ _ _ _ _ _ (text_parts c.args.job.now)
    (nothing_yet _ _)
    c.in_default.ensures)
    (rw c.pairs.ensures at c.in_default-write_pairs.ensures))
    c.in-Fault-write_atomics.ensures

pub returns-in-Fault-write_collect : goal.returns-in-Fault-write_collect
returns-in-Fault-write_collect g c =
    past_fault _ _ _ _ _ _ _ refl
    (past_done _ _ _ _ _ _ _ refl
    (past_done _ _ _ _ _ _ _ refl
    (past_done _ _ _ _ _ _ _ (text_parts c.args.job.now)
    (nothing_yet _ _)
    c.in_default.ensures)
    (rw c.pairs.ensures at c.in_default-write_pairs.ensures))
    c.in_default-write_atomics.ensures)
    c.in-Fault-write_collect.ensures

pub returns-in-Fault-write_handlers : goal.returns-in-Fault-write_handlers
returns-in-Fault-write_handlers g c =
    past_fault _ _ _ _ _ _ _ refl
    (past_done _ _ _ _ _ _ _ refl
    (past_done _ _ _ _ _ _ _ refl
    (past_done _ _ _ _ _ _ _ refl
    (past_done _ _ _ _ _ _ _ (text_parts c.args.job.now)
    (nothing_yet _ _)
    c.in_default.ensures)
    (rw c.pairs.ensures at c.in_default-write_pairs.ensures))
    c.in_default-write_atomics.ensures)
    c.in_default-write_collect.ensures)
    (rw c.texts.ensures at c.in-Fault-write_handlers.ensures)

pub returns-in-Fault-write_scripts : goal.returns-in-Fault-write_scripts
returns-in-Fault-write_scripts g c =
    past_fault _ _ _ _ _ _ _ refl
    (past_done _ _ _ _ _ _ _ refl
    (past_done _ _ _ _ _ _ _ refl
    (past_done _ _ _ _ _ _ _ refl
    (past_done _ _ _ _ _ _ _ refl
    (past_done _ _ _ _ _ _ _ (text_parts c.args.job.now)
    (nothing_yet _ _)
    c.in_default.ensures)
    (rw c.pairs.ensures at c.in_default-write_pairs.ensures))
    c.in_default-write_atomics.ensures)
    c.in_default-write_collect.ensures)
    (rw c.texts.ensures at c.in_default-write_handlers.ensures))
    (rw c.scripts.ensures at c.in-Fault-write_scripts.ensures)

pub returns-in-Fault-write_schedule : goal.returns-in-Fault-write_schedule
returns-in-Fault-write_schedule g c =
    past_fault _ _ _ _ _ _ _ refl
    (past_done _ _ _ _ _ _ _ refl
    (past_done _ _ _ _ _ _ _ refl
    (past_done _ _ _ _ _ _ _ refl
    (past_done _ _ _ _ _ _ _ refl
    (past_done _ _ _ _ _ _ _ refl
    (past_done _ _ _ _ _ _ _ (text_parts c.args.job.now)
    (nothing_yet _ _)
    c.in_default.ensures)
    (rw c.pairs.ensures at c.in_default-write_pairs.ensures))
    c.in_default-write_atomics.ensures)
    c.in_default-write_collect.ensures)
    (rw c.texts.ensures at c.in_default-write_handlers.ensures))
    (rw c.scripts.ensures at c.in_default-write_scripts.ensures))
    (c.in-Fault-write_schedule.ensures (c.args.job.now).settings)

pub returns : goal.returns
returns g c =
    past_last _ _ _ _ _ _
    (past_done _ _ _ _ _ _ _ refl
    (past_done _ _ _ _ _ _ _ refl
    (past_done _ _ _ _ _ _ _ refl
    (past_done _ _ _ _ _ _ _ refl
    (past_done _ _ _ _ _ _ _ refl
    (past_done _ _ _ _ _ _ _ refl
    (past_done _ _ _ _ _ _ _ (text_parts c.args.job.now)
    (nothing_yet _ _)
    c.in_default.ensures)
    (rw c.pairs.ensures at c.in_default-write_pairs.ensures))
    c.in_default-write_atomics.ensures)
    c.in_default-write_collect.ensures)
    (rw c.texts.ensures at c.in_default-write_handlers.ensures))
    (rw c.scripts.ensures at c.in_default-write_scripts.ensures))
    (c.in_default-write_schedule.ensures (c.args.job.now).settings))
    c.write_bare.ensures
