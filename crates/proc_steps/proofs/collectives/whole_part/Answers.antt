-- A try of a whole collective.
use Rattle.proc_steps.proofs.Collecting.{begun_told, goes_on_told, still_of}
use Rattle.proc_steps.proofs.collectives.whole_part.Goals as goal

pub returns-in-None : goal.returns-in-None
returns-in-None g c = record {
  tries = begun_told (g.H.Handlers.meaning c.args.handlers.now) c.args.endpoint.now c.begin_whole-first.new.endpoint
      c.args.collectives.now c.begin_whole-first.new.collectives c.args.trial.now c.args.text.start.shape
      c.args.text.start.from c.args.text.dest c.at.result c.begin_whole-first.result.0 c.begin_whole-first.result.1
      c.of_part.result c.in-None.is c.requires.of c.at.ensures c.of_part.ensures c.begin_whole-first.ensures.tries.same
      c.begin_whole-first.ensures.tries.same_node c.begin_whole-first.ensures.tries.tried c.begin_whole-first.ensures.first;
  there = still_of c.args.endpoint.now c.begin_whole-first.new.endpoint c.args.collectives.now
      c.begin_whole-first.new.collectives c.begin_whole-first.ensures.tries.same c.begin_whole-first.ensures.tries.same_node c.requires.of;
}

pub returns-in-Some : goal.returns-in-Some
returns-in-Some g c = record {
  tries = goes_on_told (g.H.Handlers.meaning c.args.handlers.now) c.args.endpoint.now c.go_on_whole-part.new.endpoint
      c.args.collectives.now c.go_on_whole-part.new.collectives c.args.trial.now c.args.text.start.shape
      c.args.text.start.from c.args.text.dest c.at-in-Some.result c.go_on_whole-part.result c.in-Some.first
      c.of_part-in-Some.result c.in-Some.is c.requires.of c.at-in-Some.ensures c.of_part-in-Some.ensures c.go_on_whole-part.ensures.same
      c.go_on_whole-part.ensures.same_node c.go_on_whole-part.ensures.tried;
  there = still_of c.args.endpoint.now c.go_on_whole-part.new.endpoint c.args.collectives.now
      c.go_on_whole-part.new.collectives c.go_on_whole-part.ensures.same c.go_on_whole-part.ensures.same_node c.requires.of;
}
