use Rattle.std.proofs.Common.{◌≤◌, sym, subst}
use Rattle.spec_node.specs.Credits.{greatest_holding}
use Rattle.sim_world.proofs.Reading.{most_read}
use Rattle.sim_world.proofs.world.World.most_held.Goals as goal

pub returns-clause-most : goal.returns-clause-most
returns-clause-most c =
    most_read c.self.inside.settings c.self.inside.table c.args.self.now c.self.inside.endpoints.items
    c.self.inside.exchanges.items c.self.inside.most.items c.args.node c.index.result.now
    c.self.view_is c.self.invariant.sized c.requires c.index.ensures

pub returns-clause-few : goal.returns-clause-few
returns-clause-few c = λ w most S.
    let is = most_read c.self.inside.settings c.self.inside.table c.args.self.now c.self.inside.endpoints.items
    c.self.inside.exchanges.items c.self.inside.most.items c.args.node c.index.result.now
    c.self.view_is c.self.invariant.sized c.requires c.index.ensures w most S in
    subst (λ m. m ≤ greatest_holding c.args.self.now.settings c.args.node) (sym is) (S.most_few c.args.node c.requires)
