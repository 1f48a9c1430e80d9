use Rattle.std.proofs.Common.{refl}
use Rattle.base_io.proofs.Outboxes.{past_done, past_fault}
use Rattle.text_print.specs.Writing.{word_bytes}
use Rattle.text_print.proofs.Pieces.{next_spaced_item}
use Rattle.text_print.proofs.words.write_spaced.Goals as goal

pub returns-in-Fault : goal.returns-in-Fault
returns-in-Fault g c =
    past_fault _ _ _ _ _ _ _ (next_spaced_item word_bytes c.args.words.now c.loop-word.word-index
    c.word-item.result c.loop-word-test.true c.word-item.is)
    c.loop-word.invariant c.in-Fault.ensures

pub returns-in-Fault-write_word : goal.returns-in-Fault-write_word
returns-in-Fault-write_word g c =
    past_fault _ _ _ _ _ _ _ refl
    (past_done _ _ _ _ _ _ _ (next_spaced_item word_bytes c.args.words.now c.loop-word.word-index
    c.word-item.result c.loop-word-test.true c.word-item.is) c.loop-word.invariant c.in_default.ensures)
    c.in-Fault-write_word.ensures

pub loop-word-preserved : goal.loop-word-preserved
loop-word-preserved g c =
    past_done _ _ _ _ _ _ _ refl
    (past_done _ _ _ _ _ _ _ (next_spaced_item word_bytes c.args.words.now c.loop-word.word-index
    c.word-item.result c.loop-word-test.true c.word-item.is) c.loop-word.invariant c.in_default.ensures)
    c.in_default-write_word.ensures
