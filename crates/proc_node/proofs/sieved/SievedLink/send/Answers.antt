use Rattle.std.proofs.Common.{sym, subst}
use Rattle.proc_node.specs.Sieved.{IsSieved}
use Rattle.proc_node.proofs.Sifting.{hands}
use Rattle.proc_node.proofs.sieved.SievedLink.send.Goals as goal

pub invariant_of-self : goal.invariant_of-self
invariant_of-self g c = record {
  told = let self = c.args.self.now in
      subst (λ handed. IsSieved g.L.Link self.first.value handed c.hand.new.self) (sym c.push.ensures)
      (hands g.L.Link self.first.value self.handed.datagrams self.sieve self.told (c.args.to, c.args.bytes.now)
      c.hand.new.self c.in-Done.ensures.keeps c.in-Done.ensures.unheld c.in-Done.ensures.follows);
}
