use Rattle.std.proofs.Common.{drop}
use Rattle.std.specs.List.{flat_map}
use Rattle.base_io.specs.Buffered.{GathersUpTo, outbox}
use Rattle.text_job.specs.JobText.{script_lines, spell}
use Rattle.text_print.proofs.scripts.write_scripts.Given as goal

-- the lines so far went in
abbrev pub invariant-loop-script : goal.invariant-loop-script
invariant-loop-script g l =
    GathersUpTo (outbox g.K.Sink.taken g.K.Sink.faults l.initial.sink)
    (outbox g.K.Sink.taken g.K.Sink.faults l.sink)
    (spell (flat_map script_lines l.scripts)) (spell (flat_map script_lines (drop l.script-index l.scripts)))
