use Rattle.std.proofs.Common.{◌≡◌, ◌++◌, List}
use Rattle.cli_report.specs.Gathering.{GivesOne, GivesTo}
use Rattle.cli_report.specs.declared.unsent.SentMessage.{SentMessage}
use Rattle.cli_report.proofs.gathered.add_sent.Given as goal

-- what was sent so far was added
abbrev pub invariant-loop-number : goal.invariant-loop-number
invariant-loop-number g l = (sent : List SentMessage)
    × GivesTo (GivesOne (g.R.Replays.sent l.replays l.initial.place)) l.number sent
    × (l.all.items ≡ l.initial.all.items ++ sent)
