use Rattle.std.proofs.Common.{arith, refl}
use Rattle.wire_message.specs.Reading.{outgoing_message}
use Rattle.wire_message.proofs.Laws.{length-spelling}
use Rattle.wire_message.proofs.writing.write_into.Goals as goal

pub returns-then-buf-parts-clause-written : goal.returns-then-buf-parts-clause-written
returns-then-buf-parts-clause-written c =
    (omega (arith, length-spelling (outgoing_message c.args.parts.now), c.if-buf-parts.true), refl)
