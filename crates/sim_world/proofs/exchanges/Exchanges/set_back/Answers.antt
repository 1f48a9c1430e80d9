use Rattle.std.proofs.Common.{◌-◌, refl, ap, arith}
use Rattle.sim_world.specs.Exchanges.{leading_back, with_credit_back}
use Rattle.sim_world.proofs.Prefixes.{prefix_grows, written_is}
use Rattle.sim_world.proofs.exchanges.Exchanges.set_back.Goals as goal

pub first_out_from-self-inside-requires-clause-last : goal.first_out_from-self-inside-requires-clause-last
first_out_from-self-inside-requires-clause-last c =
    omega (
      arith,
      c.self.invariant,
      prefix_grows c.self.inside.list.items (c.args.number - 1)
          (with_credit_back c.index_mut.result.now) refl,
      ap leading_back c.deref.ensures.value,
    )

pub returns : goal.returns
returns c =
    written_is c.self.inside.list.items _ c.args.number c.args.self.now with_credit_back c.index_mut.result.now c.self.view_is
    c.requires.first c.requires.last c.index_mut.ensures.value
