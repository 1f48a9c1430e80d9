use Rattle.std.proofs.Common.{refl}
use Rattle.base_io.proofs.Outboxes.{past_done, past_fault}
use Rattle.text_steps.specs.Events.{timed_text}
use Rattle.text_print.proofs.Pieces.{next_line}
use Rattle.text_print.proofs.schedules.write_events.Goals as goal

pub returns-in-Fault : goal.returns-in-Fault
returns-in-Fault g c =
    λ settings.
    past_fault _ _ _ _ _ _ _ (next_line (timed_text settings.nodes settings.threads) c.args.events.now
    c.loop-event.event-index c.event-item.result c.loop-event-test.true c.event-item.is)
    (c.loop-event.invariant settings) (c.in-Fault.ensures settings.nodes settings.threads)

pub returns-in-Fault-write_all : goal.returns-in-Fault-write_all
returns-in-Fault-write_all g c =
    λ settings.
    past_fault _ _ _ _ _ _ _ refl
    (past_done _ _ _ _ _ _ _ (next_line (timed_text settings.nodes settings.threads) c.args.events.now
    c.loop-event.event-index c.event-item.result c.loop-event-test.true c.event-item.is) (c.loop-event.invariant
    settings) (c.in_default.ensures settings.nodes settings.threads)) c.in-Fault-write_all.ensures

pub loop-event-preserved : goal.loop-event-preserved
loop-event-preserved g c =
    λ settings.
    past_done _ _ _ _ _ _ _ refl
    (past_done _ _ _ _ _ _ _ (next_line (timed_text settings.nodes settings.threads) c.args.events.now
    c.loop-event.event-index c.event-item.result c.loop-event-test.true c.event-item.is) (c.loop-event.invariant
    settings) (c.in_default.ensures settings.nodes settings.threads)) c.in_default-write_all.ensures
