use Rattle.std.proofs.Common.{subst, arith}
use Rattle.node_core.specs.InPlace.{keeping_in}
use Rattle.node_core.proofs.InPlace.{lawful_keeping}
use Rattle.node_rules.specs.EndpointRules.{transition}
use Rattle.node_rules.specs.declared.answer.Answer.TheVariants as answers
use Rattle.node_endpoint.specs.EndpointState.{EndpointState, BytesCome}
use Rattle.node_endpoint.specs.Parts.{endpoint_of}
use Rattle.node_endpoint.proofs.Delivering.{bytes_steps, bytes_whole}
use Rattle.node_endpoint.proofs.endpoint.Endpoint.deliver_in_place.Goals as goal

pub invariant_of-self : goal.invariant_of-self
invariant_of-self g c =
    let segment = c.self.inside.core.segment in
    let meaning = g.H.Handlers.meaning c.args.handlers.now in
    bytes_whole (keeping_in segment meaning) c.self.inside.core c.deliver_in_place-answer.new.self
    c.self.inside.extended c.hear.new.self c.args.bytes.now c.deliver_in_place-answer.result
    (lawful_keeping segment meaning (g.met.H.Handlers.is_lawful c.args.handlers.now))
    (λ i. omega (arith, c.type_inv.bytes i)) c.self.invariant c.deliver_in_place-answer.ensures c.hear.ensures

pub returns : goal.returns
returns g c =
    let segment = c.self.inside.core.segment in
    let meaning = g.H.Handlers.meaning c.args.handlers.now in
    subst (λ (e : EndpointState). BytesCome (keeping_in e.core.segment meaning) e
    (transition c.args.now c.args.bytes.now (answers.Delivered c.deliver_in_place-answer.result))
    (endpoint_of c.deliver_in_place-answer.new.self c.hear.new.self)) c.self.view_is
    (bytes_steps (keeping_in segment meaning) c.self.inside.core c.deliver_in_place-answer.new.self
    c.self.inside.extended c.hear.new.self c.args.now c.args.bytes.now c.deliver_in_place-answer.result
    (lawful_keeping segment meaning (g.met.H.Handlers.is_lawful c.args.handlers.now))
    c.deliver_in_place-answer.ensures c.hear.ensures)
