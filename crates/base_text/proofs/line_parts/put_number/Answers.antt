use Rattle.std.proofs.Common.{◌∷◌, [], arith, decimal}
use Rattle.std.proofs.lemmas.Fmt.{length-decimal-le}
use Rattle.base_io.proofs.Outboxes.{gathers_more}
use Rattle.base_text.proofs.line_parts.put_number.Goals as goal

pub returns-clause-gathers : goal.returns-clause-gathers
returns-clause-gathers g c =
    gathers_more _ _ _ (32 ∷ []) (decimal c.args.number) c.put.ensures.gathers c.put_number.ensures.gathers

pub returns-clause-room : goal.returns-clause-room
returns-clause-room g c =
    let few = length-decimal-le 20 c.args.number (omega arith) (omega (arith, c.ranges.number.fits))
    c.ranges.number.fits in
    omega (arith, few, c.put.ensures.room, c.put_number.ensures.room)
