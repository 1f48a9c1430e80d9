use Rattle.std.specs.String.{string_bytes}
use Rattle.cli_report.specs.Gathering.{GivesTo}
use Rattle.cli_report.specs.Replays.{AreSteps}
use Rattle.cli_report.proofs.gathered.steps_of.Given as goal

-- what is told of the places so far
abbrev pub invariant-loop-place : goal.invariant-loop-place
invariant-loop-place g l =
    GivesTo (AreSteps g.T.Texts g.R.Replays l.job l.replays) l.place (string_bytes l.text)
