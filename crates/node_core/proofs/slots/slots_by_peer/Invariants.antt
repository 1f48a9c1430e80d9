use Rattle.node_core.proofs.SlotCounts.{AreFilled}
use Rattle.node_core.proofs.slots.slots_by_peer.Given as goal

abbrev pub invariant-loop-peer : goal.invariant-loop-peer
invariant-loop-peer l = AreFilled l.settings l.me l.side l.peer l.counts
