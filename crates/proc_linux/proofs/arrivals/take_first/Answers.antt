use Rattle.std.proofs.Common.{arith}
use Rattle.proc_linux.proofs.Looking.{error_came, one_dropped, peer_taken}
use Rattle.proc_linux.proofs.arrivals.take_first.Goals as goal

pub returns-in-Err-clause-taken : goal.returns-in-Err-clause-taken
returns-in-Err-clause-taken g c =
    error_came c.args.hosts.now.addresses.items c.args.bound (g.A.Arrivals.told c.args.arrivals.now) c.loop-strays.strays
    (g.A.Arrivals.told c.loop-strays.arrivals) (g.A.Arrivals.told c.take_next.new.self) c.take_next.new.buf c.in-Err.error
    c.loop-strays.invariant c.in-Err.ensures.told (omega arith)

pub returns-in-Some-clause-taken : goal.returns-in-Some-clause-taken
returns-in-Some-clause-taken g c =
    peer_taken c.args.hosts.now.addresses.items c.args.bound (g.A.Arrivals.told c.args.arrivals.now) c.loop-strays.strays
    (g.A.Arrivals.told c.loop-strays.arrivals) (g.A.Arrivals.told c.take_next.new.self) c.take_next.new.buf c.in-Ok.got.0 c.in-Some.peer
    c.in-Ok.got.1 c.loop-strays.invariant c.in-Ok.ensures.told c.in-Some.ensures (omega arith)

pub loop-strays-preserved : goal.loop-strays-preserved
loop-strays-preserved g c =
    one_dropped c.args.hosts.now.addresses.items c.args.bound (g.A.Arrivals.told c.args.arrivals.now) c.loop-strays.strays
    (g.A.Arrivals.told c.loop-strays.arrivals) (g.A.Arrivals.told c.take_next.new.self) _ c.loop-strays.invariant
    c.in-Ok.ensures.told c.in_default.ensures
