use Rattle.std.proofs.Common.{Option, None, Some, sym, subst, ℕ}
use Rattle.spec_node.specs.declared.answer.SlotRef.{SlotRef}
use Rattle.spec_node.specs.NodeStep.{Ticks, OfTick}
use Rattle.node_core.specs.CoreContracts.{CoreSteps, retransmits}
use Rattle.node_core.specs.CoreStep.{Retransmits}
use Rattle.node_core.proofs.Ticking.{ticks_step}
use Rattle.node_core.proofs.node.Core.tick.Goals as goal

pub returns-in_err-peer : goal.returns-in_err-peer
returns-in_err-peer c = λ meaning.
    subst (λ (a : Option SlotRef). CoreSteps meaning c.args.self.now
    (record { now = c.args.now; event = Ticks; answer = OfTick (retransmits a) }) c.resend.new.self)
    (sym c.from_residual.ensures)
    (ticks_step meaning c.args.self.now c.args.now None c.resend.new.self
    (subst (λ (o : Option (ℕ × ℕ)). Retransmits c.args.self.now c.args.now o c.resend.new.self) c.in_err-peer.was
    c.resend.ensures))

pub returns : goal.returns
returns c = λ meaning.
    subst (λ (at : SlotRef). CoreSteps meaning c.args.self.now
    (record { now = c.args.now; event = Ticks; answer = OfTick (retransmits (Some at)) }) c.resend.new.self)
    (sym c.of_request.ensures)
    (ticks_step meaning c.args.self.now c.args.now (Some (c.in_ok-peer.peer, c.in_ok-peer.slot)) c.resend.new.self
    (subst (λ (o : Option (ℕ × ℕ)). Retransmits c.args.self.now c.args.now o c.resend.new.self) c.in_ok-peer.was
    c.resend.ensures))
