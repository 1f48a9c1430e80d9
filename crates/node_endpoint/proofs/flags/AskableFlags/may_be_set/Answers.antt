use Rattle.std.proofs.Common.{sym, ◌∙◌}
use Rattle.node_endpoint.proofs.flags.AskableFlags.may_be_set.Goals as goal

pub returns : goal.returns
returns c flag F is node = F.each node ∙ sym (c.can_ask_any.ensures is node F.behaviour F.node F.stands)
