-- The datagram at a place.
use Rattle.std.proofs.Common.{Some, None, sym, ap, ◌∙◌, subst, option_copied, slice_get}
use Rattle.wire_message.specs.Parameters.{Parameters}
use Rattle.spec_node.specs.SlotMessages.{message_at}
use Rattle.proc_machine.specs.Kept.{MachineKept}
use Rattle.proc_machine.specs.NodeState.{NodeStands}
use Rattle.proc_machine.proofs.Standing.{datagram_is, none_there, one_there}
use Rattle.proc_machine.proofs.node.NodeMachineMachine.outgoing.Goals as goal

pub returns-in-None : goal.returns-in-None
returns-in-None c = λ r stands.
    let it = c.self.inside in
    let S = subst (λ (m : MachineKept). NodeStands m r) (sym c.self.view_is) stands in
    let settings = it.job.now.settings in
    let me = it.endpoint.core.me in
    let node = r.ranked.state.node in
    none_there settings me node (slice_get r.ranked.state.outgoing c.args.i)
    (datagram_is settings me node it.outgoing r.ranked.state.outgoing c.args.i None S.outgoing_is
    (sym c.in-None.is ∙ c.slot.ensures))

pub returns-in-Some-message : goal.returns-in-Some-message
returns-in-Some-message c = λ r stands.
    let it = c.self.inside in
    let S = subst (λ (m : MachineKept). NodeStands m r) (sym c.self.view_is) stands in
    let settings = it.job.now.settings in
    let me = it.endpoint.core.me in
    let node = r.ranked.state.node in
    one_there settings me node c.in-Some.at (Some c.in-Some-message.bytes.now)
    (slice_get r.ranked.state.outgoing c.args.i)
    (datagram_is settings me node it.outgoing r.ranked.state.outgoing c.args.i (Some c.in-Some.at)
    S.outgoing_is (sym c.in-Some.is ∙ c.slot.ensures))
    (ap option_copied (sym c.in-Some-message.is)
    ∙ (c.message.ensures node S.node
    ∙ ap (λ (p : Parameters). message_at p me node c.in-Some.at) c.self.invariant.node.settings_are))

pub returns-in-None-message : goal.returns-in-None-message
returns-in-None-message c = λ r stands.
    let it = c.self.inside in
    let S = subst (λ (m : MachineKept). NodeStands m r) (sym c.self.view_is) stands in
    let settings = it.job.now.settings in
    let me = it.endpoint.core.me in
    let node = r.ranked.state.node in
    one_there settings me node c.in-Some.at None (slice_get r.ranked.state.outgoing c.args.i)
    (datagram_is settings me node it.outgoing r.ranked.state.outgoing c.args.i (Some c.in-Some.at)
    S.outgoing_is (sym c.in-Some.is ∙ c.slot.ensures))
    (ap option_copied (sym c.in-None-message.is)
    ∙ (c.message.ensures node S.node
    ∙ ap (λ (p : Parameters). message_at p me node c.in-Some.at) c.self.invariant.node.settings_are))
