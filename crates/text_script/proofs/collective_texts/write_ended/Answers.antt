use Rattle.text_script.proofs.collective_texts.write_ended.Goals as goal

pub returns-in-Mismatch : goal.returns-in-Mismatch
returns-in-Mismatch g c = rw c.in-Mismatch.is (rw c.from.ensures at c.write_numbered.ensures)

pub returns-in-NotStarted : goal.returns-in-NotStarted
returns-in-NotStarted g c = rw c.in-NotStarted.is c.write_word-in-NotStarted.ensures
