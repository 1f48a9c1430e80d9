use Rattle.std.proofs.Common.{◌∷◌, drop}
use Rattle.std.specs.List.{flat_map}
use Rattle.base_io.specs.Buffered.{GathersUpTo, outbox}
use Rattle.text_print.specs.Writing.{word_bytes}
use Rattle.text_print.proofs.words.write_spaced.Given as goal

-- the words so far went in
abbrev pub invariant-loop-word : goal.invariant-loop-word
invariant-loop-word g l =
    GathersUpTo (outbox g.K.Sink.taken g.K.Sink.faults l.initial.sink)
    (outbox g.K.Sink.taken g.K.Sink.faults l.sink)
    (flat_map (λ word. 32 ∷ word_bytes word) l.words)
    (flat_map (λ word. 32 ∷ word_bytes word) (drop l.word-index l.words))
