use Rattle.std.proofs.Common.{sym, ◌∙◌}
use Rattle.node_endpoint.proofs.flags.AskableFlags.is_set.Goals as goal

pub returns : goal.returns
returns c flag F = c.can_ask.ensures F.behaviour F.node F.stands ∙ sym (F.each c.args.node)
