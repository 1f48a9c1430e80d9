use Rattle.std.proofs.Common.{◌≡◌, true}
use Rattle.wire_message.specs.Notifications.{mask_number}
use Rattle.part_barrier.specs.Route.{has_back}
use Rattle.part_barrier.proofs.rounds.known_back.Given as goal

abbrev pub invariant-loop-back : goal.invariant-loop-back
invariant-loop-back l = has_back l.at.nodes l.at.me (mask_number l.mask) l.back ≡ true
