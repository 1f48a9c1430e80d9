-- What was written is what is told.
use Rattle.cli_report.specs.Unsent.{told_of_sender}
use Rattle.cli_report.proofs.unsent.add_sender.Goals as goal

pub returns-in-Some : goal.returns-in-Some
unfolding told_of_sender
returns-in-Some c = rw c.in-Some.is c.write.ensures.bytes
