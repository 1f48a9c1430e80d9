use Rattle.std.proofs.Common.{subst, arith}
use Rattle.node_rules.specs.EndpointRules.{transition}
use Rattle.node_rules.specs.declared.answer.Answer.TheVariants as answers
use Rattle.node_endpoint.specs.EndpointState.{EndpointState, BytesCome}
use Rattle.node_endpoint.specs.Parts.{endpoint_of}
use Rattle.node_endpoint.proofs.Delivering.{bytes_steps, bytes_whole}
use Rattle.node_endpoint.proofs.endpoint.Endpoint.deliver.Goals as goal

pub invariant_of-self : goal.invariant_of-self
invariant_of-self g c =
    bytes_whole (g.H.Handlers.meaning c.args.handlers.now) c.self.inside.core c.deliver-answer.new.self
    c.self.inside.extended c.hear.new.self c.args.bytes.now c.deliver-answer.result
    (g.met.H.Handlers.is_lawful c.args.handlers.now) (λ i. omega (arith, c.type_inv.bytes i)) c.self.invariant
    c.deliver-answer.ensures c.hear.ensures

pub returns : goal.returns
returns g c =
    let meaning = g.H.Handlers.meaning c.args.handlers.now in
    subst (λ (e : EndpointState). BytesCome meaning e
    (transition c.args.now c.args.bytes.now (answers.Delivered c.deliver-answer.result))
    (endpoint_of c.deliver-answer.new.self c.hear.new.self)) c.self.view_is
    (bytes_steps meaning c.self.inside.core c.deliver-answer.new.self c.self.inside.extended c.hear.new.self
    c.args.now c.args.bytes.now c.deliver-answer.result (g.met.H.Handlers.is_lawful c.args.handlers.now)
    c.deliver-answer.ensures c.hear.ensures)
