use Rattle.std.proofs.Common.{sym, refl}
use Rattle.text_steps.proofs.WaitingTable.{test_waits}
use Rattle.text_steps.proofs.waiting_steps.named_wait_form.Goals as goal

pub returns-in-None : goal.returns-in-None
returns-in-None c = rw (test_waits c.args.name.now c.args.rest.now, sym c.named.ensures, c.in-None.is) refl

pub returns-in-Some : goal.returns-in-Some
returns-in-Some c = rw (test_waits c.args.name.now c.args.rest.now, sym c.named.ensures, c.in-Some.is) c.fits.ensures
