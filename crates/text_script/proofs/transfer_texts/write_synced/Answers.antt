use Rattle.text_script.proofs.transfer_texts.write_synced.Goals as goal

pub returns-in-BadHandle : goal.returns-in-BadHandle
returns-in-BadHandle g c = rw c.in-BadHandle.is c.write_word-in-BadHandle.ensures
