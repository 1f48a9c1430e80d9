use Rattle.std.proofs.Common.{drop, map}
use Rattle.base_io.specs.Buffered.{GathersUpTo, outbox}
use Rattle.text_job.specs.JobText.{spell}
use Rattle.text_steps.specs.Bodies.{action_text}
use Rattle.text_print.proofs.handlers.write_actions.Given as goal

-- the lines so far went in
abbrev pub invariant-loop-action : goal.invariant-loop-action
invariant-loop-action g l =
    GathersUpTo (outbox g.K.Sink.taken g.K.Sink.faults l.initial.sink)
    (outbox g.K.Sink.taken g.K.Sink.faults l.sink)
    (spell (map action_text l.actions))
    (spell (map action_text (drop l.action-index l.actions)))
