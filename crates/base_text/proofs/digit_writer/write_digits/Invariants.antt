use Rattle.std.proofs.Common.{length}
use Rattle.std.specs.List.{flat_map}
use Rattle.base_io.specs.Buffered.{GathersUpTo, outbox}
use Rattle.base_text.specs.HexBytes.{hex_byte}
use Rattle.base_text.proofs.digit_writer.write_digits.Given as goal

-- the digits of the bytes so far went in
abbrev pub invariant-loop-rest : goal.invariant-loop-rest
invariant-loop-rest g l =
    GathersUpTo (outbox g.K.Sink.taken g.K.Sink.faults l.initial.sink)
    (outbox g.K.Sink.taken g.K.Sink.faults l.sink)
    (flat_map hex_byte l.bytes) (flat_map hex_byte l.rest)

abbrev pub decreases-loop-rest : goal.decreases-loop-rest
decreases-loop-rest g l = length l.rest
