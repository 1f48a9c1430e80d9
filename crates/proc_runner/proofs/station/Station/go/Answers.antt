use Rattle.std.proofs.Common.{◌≡◌, None, Some, true, rules, inl, inr, sym, ap, ◌∙◌}
use Rattle.proc_runner.proofs.Going.{goes, goes_of}
use Rattle.proc_runner.specs.Turns.{made_entry}
use Rattle.proc_runner.proofs.station.Station.go.Goals as goal

-- nothing was got, and something changed
pub returns-else-not-turned : goal.returns-else-not-turned
returns-else-not-turned g c =
    let i = c.self.inside in
    let e = c.turn-turned.ensures in
    let n = c.now-now.ensures in
    let polls : c.args.polls ≡ g.M.Machine.polls_at i.machine c.args.thread = c.requires.polls
    ∙ ap (λ b. g.M.Machine.polls_at b.machine c.args.thread) (sym c.self.view_is) in
    let changed : c.turn-turned.result.changed ≡ true = search rules in
    rw (← c.self.view_is)
    (goes g.M.Machine g.L.Link g.C.Clock g.K.Recorder c.args.thread
    (record {
      machine = i.machine;
      link = i.link;
      clock = i.clock;
      recorder = i.recorder;
      count = i.count;
      quiet = i.quiet;
      idle
          = i.idle;
      patience = i.patience;
      kept = i.kept;
    })
    c.now-now.result None c.turn-turned.result
    (record {
      machine = c.turn-turned.new.self;
      link = c.ask.new.link;
      clock = c.now-now.new.self;
      recorder = i.recorder;
      count = i.count;
      quiet = c.quiet_after-self-inside.result;
      idle = i.idle;
      patience =
          i.patience;
      kept = i.kept;
    })
    (record {
      asks = record { asked = n.asked; fixed = n.fixed; time = λ v h. n.said ∙ n.one v h };
      said = n.said;
      gives = rw (← polls) c.in-Nothing.ensures;
      whether = inr changed;
      turns = record { threads = e.threads; polls = e.polls; stands = e.after; told_is = e.turned };
      begun = ap (λ b. b.kept) c.self.view_is ∙ c.requires.begun;
      rest = search rules;
    })
    c.finish.result c.finish.new.self c.finish.ensures)

-- a datagram was got
pub returns-in-Datagram : goal.returns-in-Datagram
returns-in-Datagram g c =
    let i = c.self.inside in
    let e = c.turn-turned-in-Datagram.ensures in
    let n = c.now-now.ensures in
    let got = c.in-Datagram.bytes.items in
    let polls : c.args.polls ≡ g.M.Machine.polls_at i.machine c.args.thread = c.requires.polls
    ∙ ap (λ b. g.M.Machine.polls_at b.machine c.args.thread) (sym c.self.view_is) in
    rw (← c.self.view_is)
    (goes_of g.M.Machine g.L.Link g.C.Clock g.K.Recorder c.args.thread
    (record {
      machine = i.machine;
      link = i.link;
      clock = i.clock;
      recorder = i.recorder;
      count = i.count;
      quiet = i.quiet;
      idle
          = i.idle;
      patience = i.patience;
      kept = i.kept;
    })
    c.now-now.result (Some got) c.turn-turned-in-Datagram.result
    (record {
      machine = c.turn-turned-in-Datagram.new.self;
      link = c.ask.new.link;
      clock = c.now-now.new.self;
      recorder = i.recorder;
      count = i.count;
      quiet = 0;
      idle = i.idle;
      patience = i.patience;
      kept
          = i.kept;
    })
    (record {
      asks = record { asked = n.asked; fixed = n.fixed; time = λ v h. n.said ∙ n.one v h };
      said = n.said;
      gives = rw (← polls) c.in-Datagram.ensures;
      whether = inl (λ none. absurd (cc none));
      turns = record { threads = e.threads; polls = e.polls; stands = search rules; told_is = search rules };
      begun = ap (λ b. b.kept) c.self.view_is ∙ c.requires.begun;
      rest = search rules;
    })
    (made_entry c.args.thread c.now-now.result (Some c.of.result))
    (ap (λ b. made_entry c.args.thread c.now-now.result (Some b)) c.of.ensures)
    c.finish-in-Datagram.result c.finish-in-Datagram.new.self c.finish-in-Datagram.ensures)
