use Rattle.std.proofs.Common.{refl, sym, option_map}
use Rattle.base_io.proofs.SievePlans.{repeat_failed, repeat_sent}
use Rattle.base_io.proofs.sieve.Sieve.hand.Goals as goal

pub returns-in-Failed-clause-follows : goal.returns-in-Failed-clause-follows
returns-in-Failed-clause-follows g c =
    let i = c.self.inside in
    let e = c.in-Failed.ensures in
    let n = c.saturating_add-self-inside in
    let held = option_map (λ to. (to, i.buffer.items)) i.held in
    rw (← c.self.view_is)
    (repeat_failed g.L.Link (c.args.to, c.args.bytes.now)
    (record { inner = i.inner; lose = i.lose; repeat = i.repeat; swap = i.swap; number = i.number; held = held })
    (record {
      inner = c.send.new.self;
      lose = i.lose;
      repeat = i.repeat;
      swap = i.swap;
      number = n.result;
      held =
          held;
    })
    n.result n.ensures (sym c.in-Repeat.ensures) e.sent refl (e.cause tt))

pub returns-in-Done-clause-follows : goal.returns-in-Done-clause-follows
returns-in-Done-clause-follows g c =
    let i = c.self.inside in
    let e = c.in-Done.ensures in
    let n = c.saturating_add-self-inside in
    let held = option_map (λ to. (to, i.buffer.items)) i.held in
    rw (← c.self.view_is)
    (repeat_sent g.L.Link (c.args.to, c.args.bytes.now)
    (record { inner = i.inner; lose = i.lose; repeat = i.repeat; swap = i.swap; number = i.number; held = held })
    (record {
      inner = c.send.new.self;
      lose = i.lose;
      repeat = i.repeat;
      swap = i.swap;
      number = n.result;
      held =
          held;
    })
    c.pass.new.self n.result c.pass.result n.ensures (sym c.in-Repeat.ensures) e.sent refl e.later
    c.pass.ensures.follows)
