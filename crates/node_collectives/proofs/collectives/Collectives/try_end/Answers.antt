use Rattle.std.proofs.Common.{refl, sym}
use Rattle.node_collectives.proofs.Stepping.{there_of}
use Rattle.node_collectives.proofs.Trying.{ends_refused, ends_tried, same_node_ended, tries_so}
use Rattle.node_collectives.proofs.collectives.Collectives.try_end.Goals as goal

pub finish-answer-requires : goal.finish-answer-requires
finish-answer-requires g c = record {
  settings = c.requires.settings;
  there = there_of c.args.self.now (g.K.Caller.site c.args.caller.now) c.in-None.ensures.stands c.requires.settings
      c.requires.me;
  thread = c.requires.thread;
  may = c.in-None.ensures.passes;
}

pub end-requires : goal.end-requires
end-requires g c = c.in-None.ensures.passes.opened

pub returns-in-Some : goal.returns-in-Some
returns-in-Some g c = record {
  ends = ends_refused g.K.Caller c.args.self.now c.args.caller.now
      (record { thread = c.args.thread; dest = c.args.dest }) c.in-Some.refusal (sym c.in-Some.ensures.refusal);
  same_reference = refl;
  same_site = refl;
  same_node = record { settings_are = refl; me_is = refl; area_is = refl };
  stands = c.in-Some.ensures.stands;
}

pub returns-in-None : goal.returns-in-None
returns-in-None g c = record {
  ends = ends_tried g.K.Caller c.args.self.now c.args.caller.now
      (record { thread = c.args.thread; dest = c.args.dest }) c.finish-answer.result c.end.new.self
      c.finish-answer.new.caller (sym c.in-None.ensures.refusal)
      (tries_so g.K.Caller c.args.self.now c.args.caller.now (record { thread = c.args.thread; dest = c.args.dest })
      c.finish-answer.result c.end.new.self c.finish-answer.new.caller c.finish-answer.ensures c.end.ensures);
  same_reference = c.finish-answer.ensures.reference;
  same_site = c.finish-answer.ensures.site;
  same_node = same_node_ended c.args.self.now c.end.new.self c.finish-answer.result c.end.ensures;
  stands = c.in-None.ensures.stands;
}
