use Rattle.std.proofs.Common.{drop}
use Rattle.std.specs.List.{flat_map}
use Rattle.base_io.specs.Buffered.{GathersUpTo, outbox}
use Rattle.text_calls.specs.Forms.{Operations, bundle_text}
use Rattle.text_print.proofs.forms.write_ops.Given as goal

-- the operations so far went in
abbrev pub invariant-loop-op : goal.invariant-loop-op
invariant-loop-op g l =
    GathersUpTo (outbox g.K.Sink.taken g.K.Sink.faults l.initial.sink)
    (outbox g.K.Sink.taken g.K.Sink.faults l.sink)
    (flat_map (bundle_text Operations) l.ops)
    (flat_map (bundle_text Operations) (drop l.op-index l.ops))
