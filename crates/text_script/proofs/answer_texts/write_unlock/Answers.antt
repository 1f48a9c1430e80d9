use Rattle.text_script.proofs.answer_texts.write_unlock.Goals as goal

pub returns-in-Refused : goal.returns-in-Refused
returns-in-Refused g c = rw (c.in-Refused.is) (rw c.lock_fault_word.ensures.word at c.write_reason.ensures)
