use Rattle.std.proofs.Common.{◌≡◌, ℕ, ◌<◌, ◌/◌, ◌%◌, ◌^◌, length, sym, ap, ◌∙◌, arith, rules, nat_eq, slice_index_or}
use Rattle.std.specs.Int.{bit_at}
use Rattle.std.proofs.lemmas.Nat.Bits.{shr_and_one}
use Rattle.wire_message.specs.Notifications.{mask_number}
use Rattle.part_barrier.proofs.Words.{bit_of}
use Rattle.part_barrier.proofs.mask.is_in.Goals as goal

pub returns : goal.returns
returns c =
    let ws = c.args.mask.now in
    let k = c.args.node in
    let fits : (i : ℕ) → i < length ws → slice_index_or ws i 0 < 2 ^ 64 = λ i h. search rules in
    let at : bit_at (mask_number ws) k ≡ bit_at (slice_index_or ws (k / 64) 0) (k % 64) =
    ap (bit_at (mask_number ws)) (omega arith) ∙ bit_of ws (k / 64) (k % 64) (omega arith) (search rules) fits in
    ap (λ x. nat_eq x 1) (shr_and_one (slice_index_or ws (k / 64) 0) (k % 64) ∙ sym at)
