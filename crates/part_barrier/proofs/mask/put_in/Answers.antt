use Rattle.std.proofs.Common.{◌≡◌, ℕ, ◌<◌, ◌*◌, ◌/◌, ◌%◌, ◌^◌, length, ap, ◌∙◌, arith, rules, slice_index_or}
use Rattle.std.specs.Prelude.{bit_or, slice_set}
use Rattle.std.proofs.Math.Pow.{pow-lt}
use Rattle.std.proofs.Math.Nat.{mod-eq_of_lt}
use Rattle.wire_message.specs.Notifications.{mask_number}
use Rattle.part_barrier.proofs.Words.{set_bit}
use Rattle.part_barrier.proofs.mask.put_in.Goals as goal

pub returns : goal.returns
returns c =
    let ws = c.args.mask.now in
    let k = c.args.node in
    let fits : (i : ℕ) → i < length ws → slice_index_or ws i 0 < 2 ^ 64 = λ i h. search rules in
    let small : 2 ^ (k % 64) < 18446744073709551616 = pow-lt {i = k % 64} {j = 64} (omega arith) in
    let one : 1 * 2 ^ (k % 64) % 18446744073709551616 ≡ 2 ^ (k % 64) =
    ap (λ x. x % 18446744073709551616) (omega arith) ∙ mod-eq_of_lt small in
    ap (λ b. mask_number (slice_set ws (k / 64) (bit_or (slice_index_or ws (k / 64) 0) b))) one
    ∙ (set_bit ws (k / 64) (k % 64) (omega arith) (search rules) fits
    ∙ ap (λ e. bit_or (mask_number ws) (2 ^ e)) (omega arith))
