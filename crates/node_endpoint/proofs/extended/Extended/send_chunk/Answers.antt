use Rattle.std.proofs.Common.{◌∙◌, ap, subst, sym}
use Rattle.spec_node.specs.Step.{request_slot}
use Rattle.spec_node.specs.declared.answer.Ticked.{Ticked}
use Rattle.spec_node.specs.declared.answer.Ticked.TheVariants as ticked
use Rattle.part_transfers.specs.Operation.{target}
use Rattle.node_rules.specs.EndpointRules.{chunk_work}
use Rattle.node_endpoint.specs.Parts.{PartSends}
use Rattle.node_endpoint.proofs.Ticks.{never_refused, accepted_own, asked_of, chunk_sends, slot_within}
use Rattle.node_endpoint.proofs.extended.Extended.send_chunk.Goals as goal

pub unreachable-requires : goal.unreachable-requires
unreachable-requires c =
    never_refused c.args.core.now c.ask.new.self c.args.self.now c.args.now (target c.args.next.now.transfer)
    (chunk_work c.args.next.now) c.ask.result c.requires.whole c.requires.can
    (asked_of c.args.core.now c.ask.new.self c.args.now _ _ _ _ c.ask.result c.target-to.ensures c.chunk_work.ensures
    c.ask.ensures)
    (λ other slot number e. c.in_default.not-Accepted other slot number e)

pub mark_sent-requires-clause-slot_in : goal.mark_sent-requires-clause-slot_in
mark_sent-requires-clause-slot_in c =
    slot_within c.args.core.now c.ask.new.self c.args.self.now c.args.now (target c.args.next.now.transfer)
    c.in-Accepted.slot c.in-Accepted.number (chunk_work c.args.next.now) c.requires.whole c.requires.can
    (accepted_own c.args.core.now c.ask.new.self c.args.self.now c.args.now (target c.args.next.now.transfer)
    (chunk_work c.args.next.now) c.ask.result c.in-Accepted.to c.in-Accepted.slot c.in-Accepted.number
    c.requires.whole c.requires.can c.in-Accepted.is
    (asked_of c.args.core.now c.ask.new.self c.args.now _ _ _ _ c.ask.result c.target-to.ensures c.chunk_work.ensures
    c.ask.ensures))

pub returns : goal.returns
returns c =
    let to = target c.args.next.now.transfer in
    subst (λ (t : Ticked). PartSends (record { core = c.args.core.now; extended = c.args.self.now })
    (record { now = c.args.now; to = to; work = chunk_work c.args.next.now }) t
    (record { core = c.ask.new.self; extended = record c.args.self.now { transfers = c.mark_sent.new.self } }))
    (ap (λ at. ticked.Chunk at)
    (sym (c.of_request.ensures ∙ ap (λ t. request_slot t c.in-Accepted.slot) c.target-to.ensures)))
    (chunk_sends c.args.core.now c.ask.new.self c.args.self.now c.mark_sent.new.self c.args.now c.in-Accepted.slot
    c.in-Accepted.number c.args.next.now c.requires.can c.requires.next
    (accepted_own c.args.core.now c.ask.new.self c.args.self.now c.args.now to (chunk_work c.args.next.now)
    c.ask.result c.in-Accepted.to c.in-Accepted.slot c.in-Accepted.number c.requires.whole c.requires.can
    c.in-Accepted.is
    (asked_of c.args.core.now c.ask.new.self c.args.now _ _ _ _ c.ask.result c.target-to.ensures c.chunk_work.ensures
    c.ask.ensures))
    c.mark_sent.ensures.stands c.mark_sent.ensures.room)
