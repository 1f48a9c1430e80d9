-- One place more.
use Rattle.cli_report.proofs.Gathering.{gives_more}
use Rattle.cli_report.specs.Replays.{AreSent}
use Rattle.cli_report.proofs.gathered.sent_of.Goals as goal

pub loop-place-preserved : goal.loop-place-preserved
loop-place-preserved g c =
    gives_more (AreSent g.R.Replays c.args.replays.now) c.loop-place.place c.loop-place.all.items
    c.in_ok-add_sent.ensures.sent _ c.loop-place.invariant c.in_ok-add_sent.ensures.are c.in_ok-add_sent.ensures.is
