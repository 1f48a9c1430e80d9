use Rattle.std.proofs.Common.{ap, Some, ◌++◌}
use Rattle.proc_node.proofs.Sifting.{same_first, stays}
use Rattle.proc_node.proofs.sieved.SievedLink.bind.Goals as goal

pub invariant_of-self : goal.invariant_of-self
invariant_of-self g c = record {
  told = stays g.L.Link c.args.self.now.first.value c.args.self.now.handed.datagrams c.args.self.now.sieve
      c.args.self.now.told c.bind.new.self c.bind.ensures.same c.bind.ensures.unsent c.bind.ensures.later;
}

pub returns-clause-sent : goal.returns-clause-sent
returns-clause-sent g c =
    ap (λ first. Some (first ++ c.args.self.now.handed.datagrams))
    (same_first g.L.Link c.args.self.now.first.value c.args.self.now.sieve c.bind.new.self c.bind.ensures.same)
