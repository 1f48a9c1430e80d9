use Rattle.std.proofs.Common.{sym, refl}
use Rattle.text_steps.proofs.BodyTables.{read_actions}
use Rattle.text_steps.proofs.bodies.named_action_at.Goals as goal

pub returns-in_default : goal.returns-in_default
returns-in_default c = rw (read_actions c.args.name.now c.args.rest.now, sym c.named.ensures, c.in_default.is) refl

pub returns : goal.returns
returns c = rw (read_actions c.args.name.now c.args.rest.now, sym c.named.ensures, c.in-Some.is) c.action_words_at.ensures
