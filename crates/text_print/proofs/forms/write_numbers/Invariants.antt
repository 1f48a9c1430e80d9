use Rattle.std.proofs.Common.{◌∷◌, drop}
use Rattle.std.specs.List.{flat_map}
use Rattle.base_io.specs.Buffered.{GathersUpTo, outbox}
use Rattle.std.proofs.Common.{decimal}
use Rattle.text_print.proofs.forms.write_numbers.Given as goal

-- the words so far went in
abbrev pub invariant-loop-number : goal.invariant-loop-number
invariant-loop-number g l =
    GathersUpTo (outbox g.K.Sink.taken g.K.Sink.faults l.initial.sink)
    (outbox g.K.Sink.taken g.K.Sink.faults l.sink)
    (flat_map (λ number. 32 ∷ decimal number) l.numbers)
    (flat_map (λ number. 32 ∷ decimal number) (drop l.number-index l.numbers))
