use Rattle.cli_report.specs.Gathering.{GivesOne, GivesTo}
use Rattle.cli_report.proofs.gathered.findings_of.Given as goal

-- what the places so far gave
abbrev pub invariant-loop-place : goal.invariant-loop-place
invariant-loop-place g l = GivesTo (GivesOne (g.R.Replays.finds l.replays)) l.place l.all.items
