use Rattle.std.proofs.Common.{sym, subst}
use Rattle.node_endpoint.specs.Sites.{IsThere}
use Rattle.node_collectives.specs.declared.answers.EndAnswer.TheVariants as end_answers
use Rattle.node_collectives.proofs.Trying.{polls_lacks, polls_told}
use Rattle.node_collectives.proofs.collectives.Collectives.poll.Goals as goal

pub segment-requires : goal.segment-requires
segment-requires g c = subst IsThere (sym c.in-Some.ensures.site) c.requires.there

pub returns-in-Some : goal.returns-in-Some
returns-in-Some g c =
    polls_told g.K.Caller g.met.K.Caller.follows c.args.self.now c.args.caller.now c.args.thread c.in-Some.answer
    c.told.result c.segment.result.now c.call_one.new.caller c.requires.settings c.in-Some.ensures c.segment.ensures
    c.told.ensures

pub returns-in-None : goal.returns-in-None
returns-in-None g c =
    polls_lacks g.K.Caller c.args.self.now c.args.caller.now c.args.thread end_answers.NoMemory c.call_one.new.caller
    c.in-None.ensures
