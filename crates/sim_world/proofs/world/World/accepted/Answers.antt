use Rattle.std.proofs.Common.{sym, ◌∙◌}
use Rattle.std.proofs.lemmas.List.{length-map}
use Rattle.spec_network.specs.Plain.{plain_request}
use Rattle.sim_world.proofs.Reading.{pair_read}
use Rattle.sim_world.proofs.world.World.accepted.Goals as goal

pub returns : goal.returns
returns c = λ w most S.
    let P = pair_read c.self.inside.settings c.self.inside.table c.args.self.now c.self.inside.endpoints.items
    c.self.inside.exchanges.items c.self.inside.most.items c.args.from c.args.to
    c.place_of.result c.index.result.now
    c.self.view_is c.self.invariant.sized c.requires.from c.requires.to c.place_of.ensures c.index.ensures w most S in
    c.len.ensures ∙ (P.count ∙ sym (length-map ((w c.args.from).asked c.args.to) plain_request))
