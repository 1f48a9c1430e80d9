use Rattle.std.proofs.Common.{rules}
use Rattle.gasnet_c.proofs.Telling.{runs_none_in, tells_in}
use Rattle.gasnet_c.proofs.stepping.stepped.Goals as goal

pub returns-clause-tells : goal.returns-clause-tells
returns-clause-tells g c =
    tells_in (g.H.Handlers.meaning c.args.handlers.now) c.args.handle.now.place.held c.put.new.handle.place.held
    c.deref_mut.result.now c.happen-told.new.self c.args.event_at.now.time c.args.event_at.now.event
    c.happen-told.result c.happen-told.new.buffer (search rules) (search rules) c.happen-told.ensures.tells

pub returns-clause-quiet : goal.returns-clause-quiet
returns-clause-quiet g c = λ none meaning.
    tells_in meaning c.args.handle.now.place.held c.put.new.handle.place.held c.deref_mut.result.now
    c.happen-told.new.self c.args.event_at.now.time c.args.event_at.now.event c.happen-told.result
    c.happen-told.new.buffer (search rules) (search rules)
    (c.happen-told.ensures.quiet
    (runs_none_in c.args.handle.now.place.held c.deref_mut.result.now c.args.event_at.now.event (search rules) none)
    meaning)
