use Rattle.std.proofs.Common.{◌∷◌, drop}
use Rattle.std.specs.List.{flat_map}
use Rattle.base_io.specs.Buffered.{GathersUpTo, outbox}
use Rattle.text_calls.specs.Kinds.{operand_word}
use Rattle.text_print.proofs.forms.write_operands.Given as goal

-- the words so far went in
abbrev pub invariant-loop-operand : goal.invariant-loop-operand
invariant-loop-operand g l =
    GathersUpTo (outbox g.K.Sink.taken g.K.Sink.faults l.initial.sink)
    (outbox g.K.Sink.taken g.K.Sink.faults l.sink)
    (flat_map (λ operand. 32 ∷ operand_word operand) l.operands)
    (flat_map (λ operand. 32 ∷ operand_word operand) (drop l.operand-index l.operands))
