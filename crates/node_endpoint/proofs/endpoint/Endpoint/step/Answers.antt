use Rattle.node_endpoint.proofs.SentSlots.{steps_send}
use Rattle.node_endpoint.proofs.Meanings.{steps_alike}
use Rattle.node_rules.specs.EndpointRules.{transition}
use Rattle.node_endpoint.proofs.endpoint.Endpoint.step.Goals as goal

pub returns-clause-sends : goal.returns-clause-sends
returns-clause-sends g c =
    steps_send (g.H.Handlers.meaning c.args.handlers.now) c.args.self.now c.step_as_recorded.new.self c.args.now
    c.args.event.now c.step_as_recorded.result c.step_as_recorded.ensures

pub returns-clause-quiet : goal.returns-clause-quiet
returns-clause-quiet g c none meaning =
    steps_alike (g.H.Handlers.meaning c.args.handlers.now) meaning c.args.self.now c.step_as_recorded.new.self
    (transition c.args.now c.args.event.now c.step_as_recorded.result) none c.step_as_recorded.ensures
