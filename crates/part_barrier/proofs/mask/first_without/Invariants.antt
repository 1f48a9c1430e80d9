use Rattle.std.proofs.Common.{◌≡◌, ℕ, ◌<◌, ◌*◌, true}
use Rattle.wire_message.specs.Notifications.{mask_number}
use Rattle.part_barrier.specs.Masks.{has}
use Rattle.part_barrier.proofs.mask.first_without.Given as goal

abbrev pub invariant-loop-place : goal.invariant-loop-place
invariant-loop-place l =
    (node : ℕ) → node < l.place * 64 → has (mask_number l.mask) node ≡ true → has (mask_number l.other) node ≡ true
