use Rattle.part_window.proofs.NewTable.{IsMade}
use Rattle.part_window.proofs.table.SlotTable.new.Given as goal

abbrev pub invariant-loop-node : goal.invariant-loop-node
invariant-loop-node l = IsMade l.credits l.me l.node l.first l.peers.items
