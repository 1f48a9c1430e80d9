use Rattle.base_io.proofs.Outboxes.{gathers_more}
use Rattle.text_script.proofs.answer_texts.write_word.Goals as goal

pub returns : goal.returns
returns g c = gathers_more _ _ _ _ _ c.put_word.ensures.gathers c.put_end.ensures
