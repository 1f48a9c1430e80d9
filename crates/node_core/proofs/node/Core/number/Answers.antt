use Rattle.std.proofs.Common.{◌≡◌, ◌<◌, subst}
use Rattle.spec_node.specs.Record.{Node}
use Rattle.spec_node.specs.SlotMessages.{number_in_slot}
use Rattle.spec_node.specs.declared.answer.Side.TheVariants as side
use Rattle.node_core.specs.Kept.{Local}
use Rattle.node_core.specs.CoreState.{CoreState}
use Rattle.node_core.specs.Stands.{CoreStands}
use Rattle.node_core.proofs.Readings.{number_read}
use Rattle.node_core.proofs.node.Core.number.Goals as goal

pub returns-in-Request : goal.returns-in-Request
returns-in-Request c =
    subst (λ (e : CoreState). (r : Node Local) → CoreStands e r
    → c.number.result ≡ number_in_slot e.settings e.me r c.args.at) c.self.view_is
    (λ r S. number_read _ r c.args.at side.Request c.number.result S c.in-Request.is
    (subst (λ n. c.args.at.peer < n) c.nodes.ensures.nodes c.if-at-nodes.false)
    c.if-at-self.false
    (subst (λ n. c.args.at.slot < n) c.slots_of.ensures c.if-at-slots_of.false)
    c.number.ensures)

pub returns-in-Reply : goal.returns-in-Reply
returns-in-Reply c =
    subst (λ (e : CoreState). (r : Node Local) → CoreStands e r
    → c.number-in-Reply.result ≡ number_in_slot e.settings e.me r c.args.at) c.self.view_is
    (λ r S. number_read _ r c.args.at side.Reply c.number-in-Reply.result S c.in-Reply.is
    (subst (λ n. c.args.at.peer < n) c.nodes.ensures.nodes c.if-at-nodes.false)
    c.if-at-self.false
    (subst (λ n. c.args.at.slot < n) c.slots_of.ensures c.if-at-slots_of.false)
    c.number-in-Reply.ensures)
