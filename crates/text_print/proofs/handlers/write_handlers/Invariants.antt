use Rattle.std.proofs.Common.{drop}
use Rattle.std.specs.List.{flat_map}
use Rattle.base_io.specs.Buffered.{GathersUpTo, outbox}
use Rattle.text_job.specs.JobText.{handler_lines, spell}
use Rattle.text_print.proofs.handlers.write_handlers.Given as goal

-- the lines so far went in
abbrev pub invariant-loop-handler : goal.invariant-loop-handler
invariant-loop-handler g l =
    GathersUpTo (outbox g.K.Sink.taken g.K.Sink.faults l.initial.sink)
    (outbox g.K.Sink.taken g.K.Sink.faults l.sink)
    (spell (flat_map handler_lines l.handlers)) (spell (flat_map handler_lines (drop l.handler-index l.handlers)))
