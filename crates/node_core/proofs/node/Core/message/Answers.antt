use Rattle.std.proofs.Common.{◌≡◌, ◌<◌, subst}
use Rattle.std.specs.Prelude.{option_copied}
use Rattle.spec_node.specs.Record.{Node}
use Rattle.node_core.specs.Kept.{Local}
use Rattle.node_core.specs.CoreState.{CoreState}
use Rattle.node_core.specs.Stands.{CoreStands}
use Rattle.spec_node.specs.SlotMessages.{message_at}
use Rattle.node_core.proofs.Readings.{request_read, reply_read}
use Rattle.node_core.proofs.node.Core.message.Goals as goal

pub returns-in-Request : goal.returns-in-Request
returns-in-Request c =
    subst (λ (e : CoreState). (r : Node Local) → CoreStands e r
    → option_copied c.bytes.result ≡ message_at e.settings e.me r c.args.at) c.self.view_is
    (λ r S. request_read _ r c.args.at (option_copied c.bytes.result) S c.in-Request.is
    (subst (λ n. c.args.at.peer < n) c.nodes.ensures.nodes c.if-at-nodes.false)
    c.if-at-self.false
    (subst (λ n. c.args.at.slot < n) c.slots_of.ensures c.if-at-slots_of.false)
    c.bytes.ensures)

pub returns-in-Reply : goal.returns-in-Reply
returns-in-Reply c =
    subst (λ (e : CoreState). (r : Node Local) → CoreStands e r
    → option_copied c.bytes-in-Reply.result ≡ message_at e.settings e.me r c.args.at) c.self.view_is
    (λ r S. reply_read _ r c.args.at (option_copied c.bytes-in-Reply.result) S c.in-Reply.is
    (subst (λ n. c.args.at.peer < n) c.nodes.ensures.nodes c.if-at-nodes.false)
    c.if-at-self.false
    (subst (λ n. c.args.at.slot < n) c.slots_of.ensures c.if-at-slots_of.false)
    c.bytes-in-Reply.ensures)
