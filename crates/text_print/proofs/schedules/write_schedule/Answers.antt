use Rattle.std.proofs.Common.{refl, codes}
use Rattle.base_io.proofs.Outboxes.{nothing_yet, past_done, past_fault, past_last}
use Rattle.text_job.specs.JobText.{timed_lines}
use Rattle.text_print.proofs.Pieces.{section_parts}
use Rattle.text_print.proofs.schedules.write_schedule.Goals as goal

pub returns-in-Fault : goal.returns-in-Fault
returns-in-Fault g c =
    λ settings.
    rw c.in-Some.is (past_fault _ _ _ _ _ _ _ (section_parts (codes "schedule") (timed_lines settings
    c.in-Some.schedule)) (nothing_yet _ _) c.in-Fault.ensures)

pub returns-in-Fault-write_events : goal.returns-in-Fault-write_events
returns-in-Fault-write_events g c =
    λ settings.
    rw c.in-Some.is (past_fault _ _ _ _ _ _ _ refl
    (past_done _ _ _ _ _ _ _ (section_parts (codes "schedule") (timed_lines settings c.in-Some.schedule))
    (nothing_yet _ _) c.in_default-write_bare.ensures)
    (rw c.lines.ensures at (c.in-Fault-write_events.ensures settings)))

pub returns : goal.returns
returns g c =
    λ settings.
    rw c.in-Some.is (past_last _ _ _ _ _ _
    (past_done _ _ _ _ _ _ _ refl (past_done _ _ _ _ _ _ _ (section_parts (codes "schedule") (timed_lines settings
    c.in-Some.schedule)) (nothing_yet _ _) c.in_default-write_bare.ensures) (rw c.lines.ensures at
    (c.in_default-write_events.ensures settings)))
    c.write_bare-2.ensures)
