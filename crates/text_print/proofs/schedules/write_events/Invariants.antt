use Rattle.std.proofs.Common.{drop, map}
use Rattle.base_io.specs.Buffered.{GathersUpTo, outbox}
use Rattle.text_job.specs.JobText.{spell}
use Rattle.wire_message.specs.Parameters.{Parameters}
use Rattle.text_steps.specs.Events.{timed_text}
use Rattle.text_print.proofs.schedules.write_events.Given as goal

-- the lines so far went in
abbrev pub invariant-loop-event : goal.invariant-loop-event
invariant-loop-event g l =
    (settings : Parameters) → GathersUpTo (outbox g.K.Sink.taken g.K.Sink.faults l.initial.sink)
    (outbox g.K.Sink.taken g.K.Sink.faults l.sink)
    (spell (map (timed_text settings.nodes settings.threads) l.events))
    (spell (map (timed_text settings.nodes settings.threads) (drop l.event-index l.events)))
