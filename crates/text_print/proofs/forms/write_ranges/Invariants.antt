use Rattle.std.proofs.Common.{drop}
use Rattle.std.specs.List.{flat_map}
use Rattle.base_io.specs.Buffered.{GathersUpTo, outbox}
use Rattle.text_calls.specs.Forms.{Spans, bundle_text}
use Rattle.text_print.proofs.forms.write_ranges.Given as goal

-- the ranges so far went in
abbrev pub invariant-loop-range : goal.invariant-loop-range
invariant-loop-range g l =
    GathersUpTo (outbox g.K.Sink.taken g.K.Sink.faults l.initial.sink)
    (outbox g.K.Sink.taken g.K.Sink.faults l.sink)
    (flat_map (bundle_text Spans) l.ranges)
    (flat_map (bundle_text Spans) (drop l.range-index l.ranges))
