use Rattle.std.proofs.Common.{◌≡◌, true}
use Rattle.wire_message.specs.Notifications.{mask_number}
use Rattle.part_barrier.specs.Masks.{has_all}
use Rattle.part_barrier.proofs.mask.has_all.Given as goal

abbrev pub invariant-loop-node : goal.invariant-loop-node
invariant-loop-node l = has_all (mask_number l.mask) l.node ≡ true
