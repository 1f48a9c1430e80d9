use Rattle.std.proofs.Common.{◌<◌, Bool, ap, sym, subst, ◌∙◌}
use Rattle.node_endpoint.specs.Sites.{IsThere, Site}
use Rattle.node_collectives.specs.Ends.{EndAsked, WritesResult}
use Rattle.node_collectives.proofs.Trying.{tries_ended, tries_lacks, tries_other}
use Rattle.node_collectives.proofs.collectives.Collectives.finish.Goals as goal

pub write_result-requires : goal.write_result-requires
write_result-requires g c =
    let site = c.in-Ended.ensures.site in
    record {
      settings = c.requires.settings ∙ sym (ap (λ (one : Site). one.settings) site);
      there = subst IsThere (sym site) c.requires.there;
      thread = subst (λ (one : Site). c.args.thread < one.settings.threads) (sym site) c.requires.thread;
      good = c.requires.may;
    }

pub returns-then-write_result : goal.returns-then-write_result
returns-then-write_result g c =
    let it = c.args.self.now in
    let asked : EndAsked = record { thread = c.args.thread; dest = c.args.dest } in
    tries_ended g.K.Caller g.met.K.Caller.follows it c.args.caller.now c.poll.new.caller asked c.write_result.new.caller
    c.in-Ended.ensures
    (subst (λ (done : Bool). WritesResult g.K.Caller it c.poll.new.caller asked done c.write_result.new.caller)
    c.if-write_result.true c.write_result.ensures)

pub returns-else-write_result : goal.returns-else-write_result
returns-else-write_result g c =
    let it = c.args.self.now in
    let asked : EndAsked = record { thread = c.args.thread; dest = c.args.dest } in
    tries_lacks g.K.Caller g.met.K.Caller.follows it c.args.caller.now c.poll.new.caller asked c.write_result.new.caller
    c.in-Ended.ensures
    (subst (λ (done : Bool). WritesResult g.K.Caller it c.poll.new.caller asked done c.write_result.new.caller)
    c.if-write_result.false c.write_result.ensures)

pub returns-in_default : goal.returns-in_default
returns-in_default g c =
    tries_other g.K.Caller c.args.self.now c.args.caller.now
    (record { thread = c.args.thread; dest = c.args.dest }) c.poll.result c.poll.new.caller c.poll.ensures
    c.in_default.not-Ended
