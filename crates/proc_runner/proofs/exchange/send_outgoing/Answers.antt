use Rattle.std.proofs.Common.{ℕ, List, [], ◌∷◌, ◌++◌}
use Rattle.proc_runner.proofs.Sending.{sends_more, outgoing_more}
use Rattle.proc_runner.proofs.exchange.send_outgoing.Goals as goal

-- one datagram more was sent
pub loop-i-preserved : goal.loop-i-preserved
loop-i-preserved g c =
    let h = c.loop-i.invariant in
    let e = c.in-Done.ensures in
    let datagram : ℕ × List ℕ = (c.in-Some.to, c.in-Some.bytes.now) in (
      h.0 ++ datagram ∷ [],
      outgoing_more g.M.Machine c.args.machine.now c.loop-i.i h.0 datagram h.1 c.in-Some.ensures,
      sends_more g.L.Link h.0 c.args.link.now c.loop-i.link c.send.new.self datagram h.2 e.sent e.received e.waiting
          e.bound e.later,
    )
