-- One place more.
use Rattle.std.proofs.Common.{Option, refl, subst}
use Rattle.cli_report.proofs.Gathering.{none_more, one_more}
use Rattle.cli_report.specs.declared.findings.NodeFinding.{NodeFinding}
use Rattle.cli_report.proofs.gathered.findings_of.Goals as goal
use Rattle.cli_report.proofs.gathered.findings_of.Goals.{in-Some+in_ok-push, in_default}

pub loop-place-preserved : goal.loop-place-preserved
loop-place-preserved g c =
    let gives = g.R.Replays.finds c.args.replays.now in
    elim c.match-finding.branch [
      | in-Some+in_ok-push w ↦
          one_more gives c.loop-place.place c.loop-place.all.items w.in-Some.finding c.match-finding.all.items
          c.loop-place.invariant
          (subst (λ (it : Option NodeFinding). gives c.loop-place.place it) w.in-Some.is c.finding.ensures)
          (rw w.all-is w.in_ok-push.ensures.items)
      | in_default w ↦
          none_more gives c.loop-place.place c.loop-place.all.items c.match-finding.all.items
          c.loop-place.invariant
          (subst (λ (it : Option NodeFinding). gives c.loop-place.place it) w.in_default.is c.finding.ensures)
          (rw w.all-is refl)
    ]
