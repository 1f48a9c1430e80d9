use Rattle.std.proofs.Common.{sym, refl}
use Rattle.text_steps.proofs.EventTable.{read_events}
use Rattle.text_steps.proofs.events.event_at.Goals as goal

pub returns-in_default : goal.returns-in_default
returns-in_default c =
    rw (
      read_events c.args.scope.now c.args.bytes.now,
      sym c.at_prefix.ensures.form,
      c.in_default.is,
    ) refl

pub returns : goal.returns
returns c =
    rw (
      read_events c.args.scope.now c.args.bytes.now,
      sym c.at_prefix.ensures.form,
      c.in-Some.is,
      sym c.in-Some.ensures.rest,
    ) c.words_at.ensures
