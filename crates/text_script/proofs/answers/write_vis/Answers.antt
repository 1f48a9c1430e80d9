use Rattle.std.proofs.Common.{[], arith, decimal}
use Rattle.std.proofs.lemmas.Fmt.{length-decimal-le}
use Rattle.base_io.proofs.Outboxes.{gathers_first, gathers_more, gathers_then}
use Rattle.base_text.proofs.LineTexts.{line_parts}
use Rattle.text_script.proofs.answers.write_vis.Goals as goal

pub returns-in-Fault : goal.returns-in-Fault
returns-in-Fault g c = gathers_first _ _ [] _ c.in-Fault.ensures.gathers

pub write_vis_words-requires : goal.write_vis_words-requires
write_vis_words-requires g c =
    let few = length-decimal-le 20 c.args.number (omega arith) (omega (arith, c.ranges.number.fits))
    c.ranges.number.fits in
    omega (arith, few, c.in_default.ensures.room, c.put_number.ensures.room)

pub returns : goal.returns
returns g c =
    rw (line_parts (decimal c.args.number) _)
    (gathers_then _ _ _ (decimal c.args.number) _ _
    (gathers_more _ _ _ [] _ c.in_default.ensures.gathers c.put_number.ensures.gathers)
    c.write_vis_words.ensures)
