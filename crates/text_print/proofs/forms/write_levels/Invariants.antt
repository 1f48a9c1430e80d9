use Rattle.std.proofs.Common.{drop}
use Rattle.std.specs.List.{flat_map}
use Rattle.base_io.specs.Buffered.{GathersUpTo, outbox}
use Rattle.text_calls.specs.Forms.{Strides, bundle_text}
use Rattle.text_print.proofs.forms.write_levels.Given as goal

-- the levels so far went in
abbrev pub invariant-loop-level : goal.invariant-loop-level
invariant-loop-level g l =
    GathersUpTo (outbox g.K.Sink.taken g.K.Sink.faults l.initial.sink)
    (outbox g.K.Sink.taken g.K.Sink.faults l.sink)
    (flat_map (bundle_text Strides) l.levels)
    (flat_map (bundle_text Strides) (drop l.level-index l.levels))
