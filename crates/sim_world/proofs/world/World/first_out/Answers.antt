use Rattle.std.proofs.Common.{sym, subst}
use Rattle.spec_network.specs.Plain.{IsFirstOut, plain_of}
use Rattle.sim_world.proofs.Reading.{pair_read}
use Rattle.sim_world.proofs.FirstOut.{first_out_is}
use Rattle.sim_world.proofs.world.World.first_out.Goals as goal

pub returns-clause-out : goal.returns-clause-out
returns-clause-out c = λ w most S.
    let v = c.args.self.now in
    let P = pair_read c.self.inside.settings c.self.inside.table v c.self.inside.endpoints.items
    c.self.inside.exchanges.items c.self.inside.most.items c.args.from c.args.to c.place_of.result
    c.index.result.now
    c.self.view_is c.self.invariant.sized c.requires.from c.requires.to c.place_of.ensures c.index.ensures w most S in
    subst (λ k. IsFirstOut (plain_of w) c.args.from c.args.to k) (sym c.first_out.ensures)
    (first_out_is c.args.from c.args.to c.index.result.now.list w P)
