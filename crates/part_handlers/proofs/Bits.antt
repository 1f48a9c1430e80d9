-- The bits of what a handler's entry lists.
use Rattle.std.proofs.Common.{◌≡◌, ◌<◌, ◌≤◌, ℕ, ◌^◌, false, ap, eqb}
use Rattle.std.proofs.lemmas.Nat.Bits.{bit_at_above}
use Rattle.part_handlers.specs.Locks.{is_listed}

-- there is no bit from the 64th on
pub unlisted_above : (listed lock : ℕ) → listed < 2 ^ 64 → 64 ≤ lock → is_listed listed lock ≡ false
unlisted_above listed lock small above = ap (λ (bit : ℕ). eqb bit 1) (bit_at_above listed 64 lock small above)
