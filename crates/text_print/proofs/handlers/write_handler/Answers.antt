use Rattle.std.proofs.Common.{refl, map}
use Rattle.base_io.proofs.Outboxes.{nothing_yet, past_done, past_fault, past_last}
use Rattle.text_steps.specs.Bodies.{action_text}
use Rattle.text_job.specs.JobText.{header_line}
use Rattle.text_print.proofs.Pieces.{section_parts}
use Rattle.text_print.proofs.handlers.write_handler.Goals as goal

pub returns-in-Fault : goal.returns-in-Fault
returns-in-Fault g c =
    past_fault _ _ _ _ _ _ _ (section_parts (header_line c.args.handler.now) (map action_text
    (c.args.handler.now).body)) (nothing_yet _ _) c.in-Fault.ensures

pub returns-in-Fault-write_actions : goal.returns-in-Fault-write_actions
returns-in-Fault-write_actions g c =
    past_fault _ _ _ _ _ _ _ refl
    (past_done _ _ _ _ _ _ _ (section_parts (header_line c.args.handler.now) (map action_text
    (c.args.handler.now).body)) (nothing_yet _ _) c.in_default.ensures)
    (rw c.actions.ensures at c.in-Fault-write_actions.ensures)

pub returns : goal.returns
returns g c =
    past_last _ _ _ _ _ _
    (past_done _ _ _ _ _ _ _ refl (past_done _ _ _ _ _ _ _ (section_parts (header_line c.args.handler.now) (map
    action_text (c.args.handler.now).body)) (nothing_yet _ _) c.in_default.ensures) (rw c.actions.ensures at
    c.in_default-write_actions.ensures))
    c.write_bare.ensures
