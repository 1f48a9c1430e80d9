use Rattle.std.proofs.Common.{arith}
use Rattle.wire_message.specs.Reading.{outgoing_message}
use Rattle.wire_message.proofs.Laws.{length-spelling}
use Rattle.wire_message.proofs.content.spell.Goals as goal

pub write_whole-requires-clause-room : goal.write_whole-requires-clause-room
write_whole-requires-clause-room c =
    omega (arith, c.requires.formed.count, c.requires.formed.payload_length, c.requires.room)

pub returns-clause-some : goal.returns-clause-some
returns-clause-some c = omega (arith, length-spelling (outgoing_message c.args.parts.now), c.write_whole.ensures.len)
