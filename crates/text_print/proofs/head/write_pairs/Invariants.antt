use Rattle.std.proofs.Common.{drop, map}
use Rattle.base_io.specs.Buffered.{GathersUpTo, outbox}
use Rattle.text_job.specs.JobText.{spell}
use Rattle.text_job.specs.JobText.{pair_line}
use Rattle.text_print.proofs.head.write_pairs.Given as goal

-- the lines so far went in
abbrev pub invariant-loop-pair : goal.invariant-loop-pair
invariant-loop-pair g l =
    GathersUpTo (outbox g.K.Sink.taken g.K.Sink.faults l.initial.sink)
    (outbox g.K.Sink.taken g.K.Sink.faults l.sink)
    (spell (map pair_line l.pairs))
    (spell (map pair_line (drop l.pair-index l.pairs)))
