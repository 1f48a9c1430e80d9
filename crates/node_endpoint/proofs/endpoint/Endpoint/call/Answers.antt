use Rattle.node_rules.specs.EndpointRules.{transition}
use Rattle.node_rules.specs.declared.call.Event.TheVariants as event
use Rattle.node_endpoint.proofs.SentSlots.{steps_send}
use Rattle.node_endpoint.proofs.Meanings.{steps_alike}
use Rattle.node_endpoint.proofs.endpoint.Endpoint.call.Goals as goal

pub returns-clause-sends : goal.returns-clause-sends
returns-clause-sends g c =
    steps_send (g.H.Handlers.meaning c.args.handlers.now) c.args.self.now c.call_as_recorded.new.self c.args.now
    (event.Call c.args.thread c.args.call.now) c.call_as_recorded.result c.call_as_recorded.ensures

pub returns-clause-quiet : goal.returns-clause-quiet
returns-clause-quiet g c none meaning =
    steps_alike (g.H.Handlers.meaning c.args.handlers.now) meaning c.args.self.now c.call_as_recorded.new.self
    (transition c.args.now (event.Call c.args.thread c.args.call.now) c.call_as_recorded.result) none
    c.call_as_recorded.ensures
