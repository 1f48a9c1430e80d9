use Rattle.std.proofs.Common.{sym, subst}
use Rattle.node_rules.specs.EndpointRules.{transition}
use Rattle.node_endpoint.specs.EndpointState.{EndpointState, EndpointSteps, RunsNone}
use Rattle.gasnet_c.proofs.node.Node.happen.Goals as goal

pub returns-clause-tells : goal.returns-clause-tells
returns-clause-tells g c = (
  c.step-answer.result,
  subst (λ (old : EndpointState). EndpointSteps (g.H.Handlers.meaning c.args.handlers.now) old
      (transition c.args.event_at.now.time c.args.event_at.now.event c.step-answer.result) c.step-answer.new.self)
      c.self.view_is c.step-answer.ensures.steps,
  c.tell.ensures,
)

pub returns-clause-quiet : goal.returns-clause-quiet
returns-clause-quiet g c = λ none meaning. (
  c.step-answer.result,
  subst (λ (old : EndpointState). EndpointSteps meaning old
      (transition c.args.event_at.now.time c.args.event_at.now.event c.step-answer.result) c.step-answer.new.self)
      c.self.view_is
      (c.step-answer.ensures.quiet
      (subst (λ (old : EndpointState). RunsNone old c.args.event_at.now.event) (sym c.self.view_is) none) meaning),
  c.tell.ensures,
)
