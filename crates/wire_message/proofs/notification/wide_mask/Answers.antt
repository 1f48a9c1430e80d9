use Rattle.std.proofs.Common.{arith}
use Rattle.wire_message.proofs.Masks.{are_words}
use Rattle.wire_message.proofs.notification.wide_mask.Goals as goal

pub returns-clause-words : goal.returns-clause-words
returns-clause-words c =
    are_words c.word_at.result c.word_at-2.result c.word_at-3.result c.word_at-4.result
    (omega arith) (omega arith) (omega arith) (omega arith)
