use Rattle.base_io.proofs.Outboxes.{gathers_more}
use Rattle.text_script.proofs.answer_texts.write_request.Goals as goal

pub returns : goal.returns
returns g c =
    let to = rw c.from.ensures at c.put_number.ensures.gathers in
    let slot = rw c.from-2.ensures at c.put_number-2.ensures.gathers in
    gathers_more _ _ _ _ _ c.put_word.ensures.gathers
    (gathers_more _ _ _ _ _ to
    (gathers_more _ _ _ _ _ slot
    (gathers_more _ _ _ _ _ c.put_number-3.ensures.gathers c.put_end.ensures)))
