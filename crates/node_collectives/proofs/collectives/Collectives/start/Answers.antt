use Rattle.std.proofs.Common.{refl, sym}
use Rattle.node_collectives.specs.Starts.{StartAsked}
use Rattle.node_collectives.proofs.Stepping.{there_of}
use Rattle.node_collectives.proofs.Beginning.{passes_of, same_node_started, short_of, starts_called, starts_refused}
use Rattle.node_collectives.proofs.collectives.Collectives.start.Goals as goal

pub put_part-requires : goal.put_part-requires
put_part-requires g c =
    let it = c.args.self.now in
    let stands = c.in-None.ensures.stands in
    let passes = passes_of it c.args.shape c.args.from stands (sym c.in-None.ensures.refusal) in
    record {
      there = there_of it (g.K.Caller.site c.args.caller.now) stands c.requires.settings c.requires.me;
      thread = c.requires.thread;
      left = passes.left;
      short = short_of it c.args.shape stands passes.shape_good;
    }

pub begin-requires : goal.begin-requires
begin-requires g c =
    let passes = passes_of c.args.self.now c.args.shape c.args.from c.in-None.ensures.stands
    (sym c.in-None.ensures.refusal) in
    record { shut = passes.shut; shape = passes.shape_good; left = passes.left }

pub returns-in-Some : goal.returns-in-Some
returns-in-Some g c = record {
  starts = starts_refused g.K.Caller c.args.self.now c.args.caller.now
      (record { thread = c.args.thread; shape = c.args.shape; from = c.args.from }) c.in-Some.refusal
      (sym c.in-Some.ensures.refusal);
  same_reference = refl;
  same_site = refl;
  same_node = record { settings_are = refl; me_is = refl; area_is = refl };
  stands = c.in-Some.ensures.stands;
}

pub returns-in-None : goal.returns-in-None
returns-in-None g c =
    let asked : StartAsked = record { thread = c.args.thread; shape = c.args.shape; from = c.args.from } in
    record {
      starts = starts_called g.K.Caller c.args.self.now c.args.caller.now asked c.start_told-answer.result
          c.begin.new.self c.put_part.new.caller (sym c.in-None.ensures.refusal) (record {
            told = c.put_part.result;
            called = c.put_part.ensures;
            answer_is = c.start_told-answer.ensures;
            next_is = c.begin.ensures;
          });
      same_reference = c.put_part.ensures.reference;
      same_site = c.put_part.ensures.site;
      same_node = same_node_started c.args.self.now c.begin.new.self c.start_told-answer.result c.args.shape
          c.begin.ensures;
      stands = c.in-None.ensures.stands;
    }
