use Rattle.std.proofs.Common.{ap, sym, subst, ◌∙◌}
use Rattle.wire_message.specs.Parameters.{Parameters}
use Rattle.node_rules.specs.declared.answer.Answer.TheVariants as answers
use Rattle.node_endpoint.specs.EndpointState.{EndpointState, MayBeCalled}
use Rattle.node_endpoint.specs.Parts.{CallSteps, endpoint_of}
use Rattle.node_endpoint.proofs.Stepping.{nothing_runs}
use Rattle.node_endpoint.proofs.Calling.{allowed_whole, allowed_steps, forbidden_steps, same_extended, call_whole}
use Rattle.node_endpoint.proofs.endpoint.Endpoint.judged_call.Goals as goal

pub allowed-requires-clause-whole : goal.allowed-requires-clause-whole
allowed-requires-clause-whole c =
    allowed_whole c.self.inside.core c.check.new.self c.self.inside.extended c.args.thread c.args.kind c.self.invariant
    c.in-Ok.ensures.steps

pub allowed-requires-clause-may : goal.allowed-requires-clause-may
allowed-requires-clause-may c =
    subst (λ (s : Parameters). MayBeCalled s c.args.thread c.args.call.now)
    (sym ((c.in-Ok.ensures.steps nothing_runs 0).same.settings
    ∙ ap (λ (e : EndpointState). e.core.settings) c.self.view_is)) c.requires.may

pub invariant_of-self : goal.invariant_of-self
invariant_of-self c =
    call_whole c.self.inside.core c.allowed.new.core c.self.inside.extended c.allowed.new.self c.args.thread
    c.args.call.now c.allowed.result c.self.invariant c.allowed.ensures.frame
    (allowed_steps c.self.inside.core c.check.new.self c.self.inside.extended c.args.thread c.args.kind
    c.args.call.now c.allowed.result (record { core = c.allowed.new.core; extended = c.allowed.new.self })
    c.requires.kind c.in-Ok.ensures.steps c.allowed.ensures)

pub returns-in-Ok : goal.returns-in-Ok
returns-in-Ok c =
    subst (λ (e : EndpointState). CallSteps e c.args.thread c.args.call.now c.allowed.result
    (endpoint_of c.allowed.new.core c.allowed.new.self)) c.self.view_is
    (allowed_steps c.self.inside.core c.check.new.self c.self.inside.extended c.args.thread c.args.kind
    c.args.call.now c.allowed.result (record { core = c.allowed.new.core; extended = c.allowed.new.self })
    c.requires.kind c.in-Ok.ensures.steps c.allowed.ensures)

pub invariant_of-self-in-Err : goal.invariant_of-self-in-Err
invariant_of-self-in-Err c =
    call_whole c.self.inside.core c.check.new.self c.self.inside.extended c.self.inside.extended c.args.thread
    c.args.call.now (answers.Forbidden c.in-Err.forbidden) c.self.invariant (same_extended c.self.inside.extended)
    (forbidden_steps c.self.inside.core c.check.new.self c.self.inside.extended c.args.thread c.args.kind
    c.in-Err.forbidden c.args.call.now c.requires.kind c.in-Err.ensures.steps)

pub returns-in-Err : goal.returns-in-Err
returns-in-Err c =
    subst (λ (e : EndpointState). CallSteps e c.args.thread c.args.call.now (answers.Forbidden c.in-Err.forbidden)
    (endpoint_of c.check.new.self c.self.inside.extended)) c.self.view_is
    (forbidden_steps c.self.inside.core c.check.new.self c.self.inside.extended c.args.thread c.args.kind
    c.in-Err.forbidden c.args.call.now c.requires.kind c.in-Err.ensures.steps)
