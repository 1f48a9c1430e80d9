use Rattle.law_messages.proofs.every_message.Goals as goal
use Rattle.law_messages.proofs.Laws.{messages_hold}
use Rattle.law_messages.proofs.Ranges.{writes_stand, ranges_stay}

pub returns : goal.returns
returns c = record { messages = messages_hold; stand = writes_stand; stay = ranges_stay }
