use Rattle.std.proofs.Common.{drop, map}
use Rattle.base_io.specs.Buffered.{GathersUpTo, outbox}
use Rattle.text_job.specs.JobText.{spell}
use Rattle.text_print.specs.Writing.{number_line}
use Rattle.text_print.proofs.head.write_number_lines.Given as goal

-- the lines so far went in
abbrev pub invariant-loop-line : goal.invariant-loop-line
invariant-loop-line g l =
    GathersUpTo (outbox g.K.Sink.taken g.K.Sink.faults l.initial.sink)
    (outbox g.K.Sink.taken g.K.Sink.faults l.sink)
    (spell (map number_line l.lines))
    (spell (map number_line (drop l.line-index l.lines)))
