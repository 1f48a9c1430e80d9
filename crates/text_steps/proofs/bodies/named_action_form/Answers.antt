use Rattle.std.proofs.Common.{sym, refl}
use Rattle.text_steps.proofs.BodyTables.{test_actions}
use Rattle.text_steps.proofs.bodies.named_action_form.Goals as goal

pub returns-in-None : goal.returns-in-None
returns-in-None c = rw (test_actions c.args.name.now c.args.rest.now, sym c.named.ensures, c.in-None.is) refl

pub returns-in-Some : goal.returns-in-Some
returns-in-Some c = rw (test_actions c.args.name.now c.args.rest.now, sym c.named.ensures, c.in-Some.is) c.fits.ensures
