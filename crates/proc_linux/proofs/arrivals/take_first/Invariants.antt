use Rattle.proc_linux.proofs.Looking.{AreDropped}
use Rattle.proc_linux.proofs.arrivals.take_first.Given as goal

abbrev pub invariant-loop-strays : goal.invariant-loop-strays
invariant-loop-strays g l =
    AreDropped l.hosts.addresses.items l.fn.bound l.strays (g.A.Arrivals.told l.fn.arrivals) (g.A.Arrivals.told l.arrivals)
