use Rattle.std.proofs.Common.{suc, ◌-◌, refl, ap, sym, ◌∙◌}
use Rattle.sim_world.specs.Exchanges.{run}
use Rattle.sim_world.proofs.Prefixes.{prefix_same, written_is}
use Rattle.sim_world.proofs.exchanges.Exchanges.set_ran.Goals as goal

pub invariant_of-self : goal.invariant_of-self
invariant_of-self c =
    c.self.invariant ∙ sym
    (ap suc (prefix_same c.self.inside.list.items (c.args.number - 1) c.index_mut.result.now
    (run c.index_mut.result.now) c.index_mut.ensures.value refl))

pub returns : goal.returns
returns c =
    written_is c.self.inside.list.items _ c.args.number c.args.self.now run c.index_mut.result.now
    c.self.view_is c.requires.first c.requires.last c.index_mut.ensures.value
