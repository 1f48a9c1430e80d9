use Rattle.std.proofs.Common.{sym, ◌∙◌}
use Rattle.sim_world.proofs.Reading.{pair_read, back_is, none_back}
use Rattle.sim_world.proofs.world.World.returned.Goals as goal

pub returns-in-Some : goal.returns-in-Some
returns-in-Some c = λ w most S.
    let v = c.args.self.now in
    let P = pair_read c.self.inside.settings c.self.inside.table v c.self.inside.endpoints.items
    c.self.inside.exchanges.items c.self.inside.most.items c.args.from c.args.to c.place_of.result
    c.index.result.now
    c.self.view_is c.self.invariant.sized c.requires.from c.requires.to c.place_of.ensures c.index.ensures w most S in
    back_is c.index.result.now.list ((w c.args.from).asked c.args.to)
    ((w c.args.to).ran c.args.from) c.args.number c.in-Some.exchange P (sym c.get.ensures ∙ c.in-Some.is)

pub returns-in-None : goal.returns-in-None
returns-in-None c = λ w most S.
    let v = c.args.self.now in
    let P = pair_read c.self.inside.settings c.self.inside.table v c.self.inside.endpoints.items
    c.self.inside.exchanges.items c.self.inside.most.items c.args.from c.args.to c.place_of.result
    c.index.result.now
    c.self.view_is c.self.invariant.sized c.requires.from c.requires.to c.place_of.ensures c.index.ensures w most S in
    none_back c.index.result.now.list
    ((w c.args.from).asked c.args.to) ((w c.args.to).ran c.args.from) c.args.number P
    (sym c.get.ensures ∙ c.in-None.is)
