use Rattle.part_window.specs.Ring.{weight}
use Rattle.part_window.specs.Order.{time_at, head_of}
use Rattle.part_window.proofs.Entries.{IsBehind}
use Rattle.part_window.proofs.order.seek.Given as goal

abbrev pub invariant-loop-at : goal.invariant-loop-at
invariant-loop-at state = IsBehind state.entries state.place state.time state.at state.next

abbrev pub decreases-loop-at : goal.decreases-loop-at
decreases-loop-at state = weight (head_of state.entries) (time_at state.entries) state.at
