use Rattle.std.proofs.Common.{refl}
use Rattle.base_io.proofs.Outboxes.{nothing_yet, past_done, past_fault, past_last}
use Rattle.text_vis.specs.VisLines.{vis_text}
use Rattle.text_print.proofs.Pieces.{call_parts}
use Rattle.text_print.proofs.events.write_thread_vis.Goals as goal

pub returns-in-Fault : goal.returns-in-Fault
returns-in-Fault g c =
    λ nodes threads.
    past_fault _ _ _ _ _ _ _ (call_parts c.args.node c.args.thread (vis_text c.args.vis.now)) (nothing_yet _ _)
    c.in-Fault.ensures

pub returns-in-Fault-write_all : goal.returns-in-Fault-write_all
returns-in-Fault-write_all g c =
    λ nodes threads.
    past_fault _ _ _ _ _ _ _ refl
    (past_done _ _ _ _ _ _ _ (call_parts c.args.node c.args.thread (vis_text c.args.vis.now)) (nothing_yet _ _)
    c.in_default.ensures) c.in-Fault-write_all.ensures

pub returns : goal.returns
returns g c =
    λ nodes threads.
    past_last _ _ _ _ _ _
    (past_done _ _ _ _ _ _ _ refl (past_done _ _ _ _ _ _ _ (call_parts c.args.node c.args.thread (vis_text
    c.args.vis.now)) (nothing_yet _ _) c.in_default.ensures) c.in_default-write_all.ensures) c.write_vis.ensures
