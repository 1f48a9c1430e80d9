use Rattle.cli_report.specs.Gathering.{GivesTo}
use Rattle.cli_report.specs.Replays.{AreSent}
use Rattle.cli_report.proofs.gathered.sent_of.Given as goal

-- what the places so far sent
abbrev pub invariant-loop-place : goal.invariant-loop-place
invariant-loop-place g l = GivesTo (AreSent g.R.Replays l.replays) l.place l.all.items
