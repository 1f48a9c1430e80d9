use Rattle.std.proofs.Common.{drop, map}
use Rattle.base_io.specs.Buffered.{GathersUpTo, outbox}
use Rattle.text_job.specs.JobText.{spell}
use Rattle.text_steps.specs.Scripts.{step_text}
use Rattle.text_print.proofs.scripts.write_steps.Given as goal

-- the lines so far went in
abbrev pub invariant-loop-step : goal.invariant-loop-step
invariant-loop-step g l =
    GathersUpTo (outbox g.K.Sink.taken g.K.Sink.faults l.initial.sink)
    (outbox g.K.Sink.taken g.K.Sink.faults l.sink)
    (spell (map step_text l.steps))
    (spell (map step_text (drop l.step-index l.steps)))
