use Rattle.std.proofs.Common.{arith}
use Rattle.wire_message.proofs.Masks.{are_words}
use Rattle.wire_message.proofs.notification.narrow_mask.Goals as goal

pub returns-clause-words : goal.returns-clause-words
returns-clause-words c = are_words c.word_at.result 0 0 0 (omega arith) (omega arith) (omega arith) (omega arith)
