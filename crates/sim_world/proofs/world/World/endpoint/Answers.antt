use Rattle.sim_world.proofs.Reading.{endpoint_read}
use Rattle.sim_world.proofs.world.World.endpoint.Goals as goal

pub returns-clause-stands : goal.returns-clause-stands
returns-clause-stands c =
    endpoint_read c.self.inside.settings c.self.inside.table c.args.self.now c.self.inside.endpoints.items
    c.self.inside.exchanges.items c.self.inside.most.items c.args.node c.index.result.now
    c.self.view_is c.self.invariant.sized c.requires c.index.ensures
