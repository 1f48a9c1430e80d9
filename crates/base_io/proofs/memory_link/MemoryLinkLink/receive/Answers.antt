use Rattle.std.proofs.Common.{◌<◌, length, refl, rules}
use Rattle.std.proofs.lemmas.List.{length-map}
use Rattle.base_io.specs.Datagrams.{bytes_of}
use Rattle.base_io.proofs.MemoryLinks.{receives_first}
use Rattle.base_io.proofs.memory_link.MemoryLinkLink.receive.Goals as goal

pub returns-clause-exact : goal.returns-clause-exact
returns-clause-exact c =
    let i = c.self.inside in
    let all = bytes_of i.datagrams.items in
    let before : i.given < length i.datagrams.items = search rules in
    let within : i.given < length all = rw length-map before in
    rw (← c.self.view_is) (
      search rules,
      receives_first _ _ all (bytes_of c.give_at-n.new.datagrams.items) i.given c.give_at-n.result
          c.args.buf.now c.give_at-n.new.buf within refl refl c.give_at-n.ensures (search rules),
    )
