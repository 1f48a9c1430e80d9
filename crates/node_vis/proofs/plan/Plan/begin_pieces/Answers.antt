use Rattle.std.proofs.Common.{◌<◌, length, sym, ◌∙◌, arith}
use Rattle.node_vis.proofs.Trying.{more_at, refused_at}
use Rattle.node_vis.proofs.plan.Plan.begin_pieces.Goals as goal

pub returns-then-is_refused : goal.returns-then-is_refused
returns-then-is_refused g c =
    let within : c.loop-place.place < length c.args.self.now.pieces = omega arith in
    refused_at g.K.Caller g.met.K.Caller.follows c.args.caller.now c.loop-place.caller c.make_call.new.caller
    c.args.self.now c.args.thread c.args.from c.loop-place.place c.transfer.result c.in-Some.answer c.loop-place.invariant
    c.loop-place.auto.place within c.transfer.ensures c.in-Some.ensures
    (sym c.is_refused.ensures ∙ c.if-is_refused.true)

pub loop-place-preserved : goal.loop-place-preserved
loop-place-preserved g c =
    let within : c.loop-place.place < length c.args.self.now.pieces = omega arith in
    more_at g.K.Caller g.met.K.Caller.follows c.args.caller.now c.loop-place.caller c.make_call.new.caller
    c.args.self.now c.args.thread c.args.from c.loop-place.place c.transfer.result c.in-Some.answer c.loop-place.invariant
    c.loop-place.auto.place within c.transfer.ensures c.in-Some.ensures
    (sym c.is_refused.ensures ∙ c.if-is_refused.false)
