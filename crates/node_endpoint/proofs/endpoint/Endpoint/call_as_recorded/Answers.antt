use Rattle.std.proofs.Common.{sym, subst}
use Rattle.spec_node.specs.NodeStep.{Asks}
use Rattle.node_core.specs.AskedFor.{ask_of}
use Rattle.node_rules.specs.EndpointRules.{RecordEvent, transition, asked_answer}
use Rattle.node_rules.specs.Called.{event_of_call}
use Rattle.node_rules.specs.declared.answer.Answer.{Answer}
use Rattle.node_endpoint.specs.EndpointState.{EndpointState, NodeSteps}
use Rattle.node_endpoint.specs.Parts.{endpoint_of}
use Rattle.node_endpoint.proofs.Calling.{same_extended}
use Rattle.node_endpoint.proofs.Stepping.{stays_whole, has_next}
use Rattle.node_endpoint.proofs.Requesting.{request_steps, asked_event}
use Rattle.node_endpoint.proofs.endpoint.Endpoint.call_as_recorded.Goals as goal

pub invariant_of-self : goal.invariant_of-self
invariant_of-self g c =
    let core = c.self.inside.core in
    let extended = c.self.inside.extended in
    let N = request_steps (g.H.Handlers.meaning c.args.handlers.now) core c.request.new.self extended c.args.now
    (ask_of c.in-Some.asking) c.request.result (g.met.H.Handlers.is_lawful c.args.handlers.now) c.request.ensures in
    stays_whole (record {
      core = core;
      extended = extended;
    }) (record { core = c.request.new.self; extended = extended })
    c.self.invariant N.same (same_extended extended)
    (has_next (g.H.Handlers.meaning c.args.handlers.now) (endpoint_of core extended)
    (endpoint_of c.request.new.self extended) c.args.now (Asks (ask_of c.in-Some.asking))
    (asked_answer c.request.result)
    N c.self.invariant.record_)

pub returns-in-Some : goal.returns-in-Some
returns-in-Some g c =
    let meaning = g.H.Handlers.meaning c.args.handlers.now in
    let core = c.self.inside.core in
    let extended = c.self.inside.extended in
    let new : EndpointState = endpoint_of c.request.new.self extended in
    let asking = c.in-Some.asking in
    let N = request_steps meaning core c.request.new.self extended c.args.now (ask_of asking) c.request.result
    (g.met.H.Handlers.is_lawful c.args.handlers.now) c.request.ensures in
    let steps = subst (λ (a : Answer). NodeSteps meaning (endpoint_of core extended)
    (transition c.args.now (Asks (ask_of asking)) a) new) (sym c.of_request.ensures) N in
    subst (λ (e : EndpointState). NodeSteps meaning e
    (transition c.args.now (event_of_call c.args.thread c.args.call.now) c.of_request.result) new) c.self.view_is
    (subst (λ (event : RecordEvent). NodeSteps meaning (endpoint_of core extended)
    (transition c.args.now event c.of_request.result) new)
    (sym (asked_event c.args.call.now c.args.thread asking c.in-Some.ensures)) steps)

pub returns-in-Some-judged_kind : goal.returns-in-Some-judged_kind
returns-in-Some-judged_kind g c =
    c.judged_call.ensures (g.H.Handlers.meaning c.args.handlers.now)
    (g.met.H.Handlers.is_lawful c.args.handlers.now) c.args.now

pub returns-in-None : goal.returns-in-None
returns-in-None g c =
    c.own_call.ensures (g.H.Handlers.meaning c.args.handlers.now)
    (g.met.H.Handlers.is_lawful c.args.handlers.now) c.args.now
