use Rattle.std.proofs.Common.{◌∙◌, ap, take}
use Rattle.proc_seal.specs.Seal.{opened_datagrams}
use Rattle.proc_seal.proofs.Seals.{heard_opened, heard_dropped}
use Rattle.proc_seal.proofs.link.receive_one.Goals as goal

pub returns-in-Some-clause-received : goal.returns-in-Some-clause-received
returns-in-Some-clause-received g c = (
  c.in-Some.ensures.fits,
  ap (opened_datagrams c.args.key.now) c.in-Got.ensures.received.1
      ∙ heard_opened c.args.key.now (take c.in-Got.len c.receive.new.buf) (take c.in-Some.len c.open.new.into)
      (g.L.Link.received c.args.link.now) c.in-Some.ensures.opened,
)

pub returns-in-None-clause-received : goal.returns-in-None-clause-received
returns-in-None-clause-received g c =
    ap (opened_datagrams c.args.key.now) c.in-Got.ensures.received.1
    ∙ heard_dropped c.args.key.now (take c.in-Got.len c.receive.new.buf) (g.L.Link.received c.args.link.now)
    c.in-None.ensures.opened
