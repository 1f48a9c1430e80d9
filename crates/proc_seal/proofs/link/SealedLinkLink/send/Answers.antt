use Rattle.proc_seal.proofs.Seals.{told_unsealed}
use Rattle.proc_seal.proofs.link.SealedLinkLink.send.Goals as goal

pub returns-clause-sent : goal.returns-clause-sent
returns-clause-sent g c =
    told_unsealed c.args.self.now.key c.args.bytes.now c.args.to c.hand.result (g.L.Link.sent c.args.self.now.inner)
    (g.L.Link.sent c.hand.new.self.inner) c.hand.ensures.seals
