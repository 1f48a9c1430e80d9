use Rattle.std.proofs.Common.{sym, refl}
use Rattle.text_vis.proofs.VisTable.{test_vis}
use Rattle.text_vis.proofs.vis_lines.named_vis_form.Goals as goal

pub returns-in-None : goal.returns-in-None
returns-in-None c = rw (test_vis c.args.name.now c.args.rest.now, sym c.named.ensures, c.in-None.is) refl

pub returns-in-Some : goal.returns-in-Some
returns-in-Some c = rw (test_vis c.args.name.now c.args.rest.now, sym c.named.ensures, c.in-Some.is) c.fits.ensures
