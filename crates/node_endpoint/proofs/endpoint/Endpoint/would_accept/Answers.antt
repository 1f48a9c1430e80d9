use Rattle.std.proofs.Common.{◌≡◌, ap, sym, subst, ◌∙◌}
use Rattle.std.specs.Prelude.{is_some}
use Rattle.spec_node.specs.Under.{under}
use Rattle.spec_node.specs.Step.{request_answer}
use Rattle.node_rules.specs.Called.{meant}
use Rattle.spec_node.specs.NodeStep.{site_of}
use Rattle.spec_node.proofs.Under.{request_alike}
use Rattle.node_core.specs.AskedFor.{ask_of, asking_of}
use Rattle.node_core.specs.Known.{is_accepted}
use Rattle.node_core.specs.ClientRules.{rules}
use Rattle.node_rules.specs.EndpointLocal.{core_of}
use Rattle.node_rules.specs.EndpointRules.{transition}
use Rattle.node_rules.specs.declared.call.Event.{Event}
use Rattle.node_rules.proofs.Over.{endpoint_over}
use Rattle.node_endpoint.specs.EndpointState.{EndpointState, WouldAcceptCall, WouldAcceptAt, job_here}
use Rattle.node_endpoint.specs.Parts.{endpoint_of, HasRecord}
use Rattle.node_endpoint.proofs.Ticks.{one_target}
use Rattle.node_endpoint.proofs.endpoint.Endpoint.would_accept.Goals as goal

pub returns-in-Tick : goal.returns-in-Tick
returns-in-Tick c =
    subst (λ (e : Event). WouldAcceptAt c.args.self.now (transition c.args.now e c.is_some.result)) (sym c.in-Tick.is)
    (λ target is. c.is_some.ensures ∙ ap is_some (one_target c.args.self.now c.args.now c.next_target.result target
    (subst HasRecord c.self.view_is c.self.invariant.record_) c.next_target.ensures.target is))

pub returns-in-Some : goal.returns-in-Some
returns-in-Some c =
    let asking = c.in-Some.asking in
    let would = c.would_accept.result in
    let core = c.self.inside.core in
    let extended = c.self.inside.extended in
    subst (λ (e : Event). WouldAcceptAt c.args.self.now (transition c.args.now e would)) (sym c.in-Call.is)
    (subst (λ (e : EndpointState). WouldAcceptCall e c.in-Call.thread (meant c.in-Call.call) would) c.self.view_is
    (subst (λ m. WouldAcceptCall (endpoint_of core extended) c.in-Call.thread m would) (sym c.in-Some.ensures.1)
    (λ meaning node S.
    subst (λ t. would
    ≡ is_accepted (request_answer (site_of (job_here meaning (endpoint_of core extended)) core.me) node
    (record { thread = t; to = asking.to; what = asking_of asking }))) c.in-Some.ensures.0
    (c.would_accept.ensures meaning (under core_of node) S.core
    ∙ ap is_accepted (sym (request_alike core_of (rules core.settings core.table meaning)
    (site_of (job_here meaning (endpoint_of core extended)) core.me) node (ask_of asking)
    (endpoint_over core.settings core.table meaning)))))))
