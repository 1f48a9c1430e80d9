use Rattle.base_io.proofs.SievePlans.{told_sent}
use Rattle.base_io.proofs.sieve.SieveLink.send.Goals as goal

pub returns-clause-sent : goal.returns-clause-sent
returns-clause-sent g c =
    told_sent g.L.Link (c.args.to, c.args.bytes.now) c.args.self.now c.hand.new.self c.hand.result c.hand.ensures.unheld
    c.hand.ensures.follows
