use Rattle.std.proofs.Common.{◌≡◌, ℕ}
use Rattle.wire_message.specs.Notifications.{mask_number}
use Rattle.part_barrier.specs.Masks.{has}
use Rattle.part_barrier.specs.Route.{any_round}
use Rattle.part_barrier.proofs.rounds.targets.Given as goal

abbrev pub invariant-loop-round : goal.invariant-loop-round
invariant-loop-round l = (to : ℕ)
    → has (mask_number l.nodes) to ≡ any_round l.at.nodes l.at.me (mask_number l.mask) to l.round
