use Rattle.std.proofs.Common.{sym, refl}
use Rattle.text_vis.proofs.VisTable.{read_vis}
use Rattle.text_vis.proofs.vis_lines.named_vis_at.Goals as goal

pub returns-in_default : goal.returns-in_default
returns-in_default c = rw (read_vis c.args.name.now c.args.rest.now, sym c.named.ensures, c.in_default.is) refl

pub returns : goal.returns
returns c = rw (read_vis c.args.name.now c.args.rest.now, sym c.named.ensures, c.in-Some.is) c.words_at.ensures
