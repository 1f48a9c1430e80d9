use Rattle.std.proofs.Common.{[], None, refl, option_map, option_to_list}
use Rattle.base_io.proofs.SievePlans.{own_sent}
use Rattle.base_io.proofs.sieve.Sieve.pass.Goals as goal

pub returns-in-Done-clause-follows : goal.returns-in-Done-clause-follows
returns-in-Done-clause-follows g c =
    let i = c.self.inside in
    let e = c.in-Done.ensures in
    let held = option_map (λ to. (to, i.buffer.items)) i.held in
    rw (← c.self.view_is)
    (own_sent g.L.Link (c.args.to, c.args.bytes.now) [] (option_to_list held) None
    (record { inner = i.inner; lose = i.lose; repeat = i.repeat; swap = i.swap; number = i.number; held = held })
    (record {
      inner = c.send.new.self;
      lose = i.lose;
      repeat = i.repeat;
      swap = i.swap;
      number = i.number;
      held =
          held;
    })
    c.send_held.new.self c.send_held.result e.sent refl e.later c.send_held.ensures.follows)
