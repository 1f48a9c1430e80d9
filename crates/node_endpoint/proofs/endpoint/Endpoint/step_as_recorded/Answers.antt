use Rattle.std.proofs.Common.{sym, subst}
use Rattle.node_rules.specs.EndpointRules.{transition}
use Rattle.node_rules.specs.declared.call.Event.{Event}
use Rattle.node_rules.specs.declared.answer.Answer.TheVariants as answers
use Rattle.node_endpoint.specs.EndpointState.{EndpointSteps}
use Rattle.node_endpoint.proofs.endpoint.Endpoint.step_as_recorded.Goals as goal

pub returns-in-Tick : goal.returns-in-Tick
returns-in-Tick g c =
    let meaning = g.H.Handlers.meaning c.args.handlers.now in
    subst (λ (e : Event). EndpointSteps meaning c.args.self.now
    (transition c.args.now e (answers.Ticked c.tick.result)) c.tick.new.self) (sym c.in-Tick.is)
    (c.tick.ensures meaning (g.met.H.Handlers.is_lawful c.args.handlers.now))
