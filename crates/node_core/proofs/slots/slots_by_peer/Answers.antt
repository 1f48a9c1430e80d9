use Rattle.std.proofs.Common.{List, ◌+◌, refl, arith, sym, subst, ◌≡◌, ℕ}
use Rattle.node_core.proofs.SlotCounts.{AreFilled, filled_own, filled_more, filled_all}
use Rattle.node_core.proofs.slots.slots_by_peer.Goals as goal
use Rattle.node_core.proofs.slots.slots_by_peer.Goals.{then-peer-me, else-peer-me}

pub loop-peer-init : goal.loop-peer-init
loop-peer-init c = record { room = refl; filled = λ node low. absurd (omega (arith, low)) }

pub loop-peer-preserved : goal.loop-peer-preserved
loop-peer-preserved c = elim c.if-peer-me.branch [
  | then-peer-me w ↦
      subst (λ (counts : List ℕ). AreFilled c.args.settings.now c.args.me c.args.side (c.loop-peer.peer + 1) counts)
      (sym w.counts-is)
      (filled_more c.args.settings.now c.args.me c.args.side c.loop-peer.peer w.slots_of.result c.loop-peer.counts
      c.loop-peer.invariant
      (omega (arith, c.loop-peer-test.true, c.nodes-peer-end.ensures.nodes, c.nodes-peer-end.ensures.range.nodes))
      w.slots_of.ensures)
  | else-peer-me w ↦
      subst (λ (counts : List ℕ). AreFilled c.args.settings.now c.args.me c.args.side (c.loop-peer.peer + 1) counts)
      (sym w.counts-is)
      (filled_own c.args.settings.now c.args.me c.args.side c.loop-peer.peer c.loop-peer.counts
      c.loop-peer.invariant w.if-peer-me.false)
]

pub returns : goal.returns
returns c =
    let end : c.loop-peer.peer ≡ c.args.settings.now.nodes =
    omega (arith, c.loop-peer.auto.peer-end, c.loop-peer-test.false, c.nodes-peer-end.ensures.nodes) in
    filled_all c.args.settings.now c.args.me c.args.side c.loop-peer.counts
    (omega (arith, c.nodes-peer-end.ensures.range.nodes))
    (subst (λ (n : ℕ). AreFilled c.args.settings.now c.args.me c.args.side n c.loop-peer.counts) end
    c.loop-peer.invariant)
