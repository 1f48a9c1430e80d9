use Rattle.std.proofs.Common.{suc, ap, sym, ◌∙◌}
use Rattle.sim_world.specs.Exchanges.{leading_back}
use Rattle.sim_world.proofs.Prefixes.{prefix_added}
use Rattle.sim_world.proofs.exchanges.Exchanges.add.Goals as goal

pub invariant_of-self : goal.invariant_of-self
invariant_of-self c =
    c.self.invariant ∙ sym
    (ap suc (ap leading_back c.push_reserved.ensures.items
    ∙ prefix_added c.self.inside.list.items c.args.slot))
