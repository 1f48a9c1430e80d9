-- One datagram more, or none.
use Rattle.std.proofs.Common.{Option, ◌++◌, ◌∷◌, [], append_assoc, refl, subst}
use Rattle.cli_report.proofs.Gathering.{none_more, one_more}
use Rattle.cli_report.specs.declared.unsent.SentMessage.{SentMessage}
use Rattle.cli_report.proofs.gathered.add_sent.Goals as goal
use Rattle.cli_report.proofs.gathered.add_sent.Goals.{in-Some+in_ok-push, in_default}

pub loop-number-preserved : goal.loop-number-preserved
loop-number-preserved g c =
    let gives = g.R.Replays.sent c.args.replays.now c.args.place in
    let sent = c.loop-number.invariant.0 in
    elim c.match-sent_at.branch [
      | in-Some+in_ok-push w ↦ (
        sent ++ w.in-Some.one ∷ [],
        one_more gives c.loop-number.number sent w.in-Some.one (sent ++ w.in-Some.one ∷ [])
            c.loop-number.invariant.1
            (subst (λ (it : Option SentMessage). gives c.loop-number.number it) w.in-Some.is c.sent_at.ensures) refl,
        rw (w.all-is, w.in_ok-push.ensures.items, c.loop-number.invariant.2)
            (append_assoc c.args.all.now.items sent (w.in-Some.one ∷ [])),
      )
      | in_default w ↦ (
        sent,
        none_more gives c.loop-number.number sent sent c.loop-number.invariant.1
            (subst (λ (it : Option SentMessage). gives c.loop-number.number it) w.in_default.is c.sent_at.ensures) refl,
        rw w.all-is c.loop-number.invariant.2,
      )
    ]
