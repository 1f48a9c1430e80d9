use Rattle.std.proofs.Common.{map, drop}
use Rattle.std.specs.List.{flat_map}
use Rattle.base_io.specs.Buffered.{GathersUpTo, outbox}
use Rattle.base_text.specs.LineTexts.{spaced_word}
use Rattle.base_text.proofs.line_writer.write_spaced.Given as goal

abbrev pub invariant-loop-word : goal.invariant-loop-word
invariant-loop-word g l = record {
  taken : GathersUpTo (outbox g.K.Sink.taken g.K.Sink.faults l.initial.sink)
      (outbox g.K.Sink.taken g.K.Sink.faults l.sink)
      (flat_map spaced_word (map (λ w. w.now) l.words)) (flat_map spaced_word (map (λ w. w.now) (drop l.word-index l.words)));
}
