use Rattle.std.proofs.Common.{sym, refl}
use Rattle.text_steps.proofs.EventTable.{test_events}
use Rattle.text_steps.proofs.events.event_form.Goals as goal

pub returns-in-None : goal.returns-in-None
returns-in-None c =
    rw (
      test_events c.args.scope.now c.args.bytes.now,
      sym c.name_of.ensures.name,
      sym c.named.ensures,
      c.in-None.is,
    ) refl

pub returns-in-Some : goal.returns-in-Some
returns-in-Some c =
    rw (
      test_events c.args.scope.now c.args.bytes.now,
      sym c.name_of.ensures.name,
      sym c.named.ensures,
      c.in-Some.is,
      sym c.name_of.ensures.rest,
    ) c.fits.ensures
