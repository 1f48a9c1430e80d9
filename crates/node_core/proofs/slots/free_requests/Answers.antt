use Rattle.std.proofs.Common.{sym, subst, ℕ, take}
use Rattle.spec_node.specs.declared.answer.Side.TheVariants as side
use Rattle.node_core.specs.Sizes.{AreSlots}
use Rattle.node_core.proofs.SlotCounts.{narrow_slots}
use Rattle.node_core.proofs.slots.free_requests.Goals as goal

pub new-requires-clause-narrow : goal.new-requires-clause-narrow
new-requires-clause-narrow c =
    narrow_slots c.args.settings.now c.args.me side.Request _ c.nodes-nodes.ensures.range
    (subst (λ (n : ℕ). AreSlots c.args.settings.now c.args.me side.Request (take n c.slots_by_peer-counts.result))
    (sym c.nodes-nodes.ensures.nodes) c.slots_by_peer-counts.ensures)
