use Rattle.std.proofs.Common.{refl, map}
use Rattle.base_io.proofs.Outboxes.{nothing_yet, past_done, past_fault, past_last}
use Rattle.text_steps.specs.Scripts.{step_text}
use Rattle.text_job.specs.JobText.{script_line}
use Rattle.text_print.proofs.Pieces.{section_parts}
use Rattle.text_print.proofs.scripts.write_script.Goals as goal

pub returns-in-Fault : goal.returns-in-Fault
returns-in-Fault g c =
    past_fault _ _ _ _ _ _ _ (section_parts (script_line c.args.script.now) (map step_text
    (c.args.script.now).steps)) (nothing_yet _ _) c.in-Fault.ensures

pub returns-in-Fault-write_steps : goal.returns-in-Fault-write_steps
returns-in-Fault-write_steps g c =
    past_fault _ _ _ _ _ _ _ refl
    (past_done _ _ _ _ _ _ _ (section_parts (script_line c.args.script.now) (map step_text
    (c.args.script.now).steps)) (nothing_yet _ _) c.in_default.ensures)
    (rw c.steps.ensures at c.in-Fault-write_steps.ensures)

pub returns : goal.returns
returns g c =
    past_last _ _ _ _ _ _
    (past_done _ _ _ _ _ _ _ refl (past_done _ _ _ _ _ _ _ (section_parts (script_line c.args.script.now) (map
    step_text (c.args.script.now).steps)) (nothing_yet _ _) c.in_default.ensures) (rw c.steps.ensures at
    c.in_default-write_steps.ensures))
    c.write_bare.ensures
