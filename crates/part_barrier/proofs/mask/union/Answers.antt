use Rattle.std.proofs.Common.{ℕ, ◌<◌, ◌^◌, ap₂, ◌∙◌, arith, rules, slice_index_or}
use Rattle.std.specs.Prelude.{bit_or}
use Rattle.wire_message.specs.Notifications.{mask_number}
use Rattle.wire_message.proofs.Masks.{four}
use Rattle.part_barrier.proofs.Words.{union_is}
use Rattle.part_barrier.proofs.mask.union.Goals as goal

pub returns : goal.returns
returns c =
    let a = c.args.first.now in
    let b = c.args.second.now in
    let fa : (i : ℕ) → i < 4 → slice_index_or a i 0 < 2 ^ 64 = λ i h. search rules in
    let fb : (i : ℕ) → i < 4 → slice_index_or b i 0 < 2 ^ 64 = λ i h. search rules in
    union_is _ _ _ _ _ _ _ _ (fa 0 (omega arith)) (fa 1 (omega arith)) (fa 2 (omega arith)) (fa 3 (omega arith))
    (fb 0 (omega arith)) (fb 1 (omega arith)) (fb 2 (omega arith)) (fb 3 (omega arith))
    ∙ ap₂ (λ x y. bit_or (mask_number x) (mask_number y)) (four a (search rules)) (four b (search rules))
