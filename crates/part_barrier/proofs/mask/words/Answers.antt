use Rattle.std.proofs.Common.{◌≡◌, ◌<◌, ◌^◌, ℕ, length, slice_index_or, sym, ◌∙◌, rules}
use Rattle.wire_message.proofs.Masks.{four}
use Rattle.part_barrier.proofs.Words.{mask_words_is}
use Rattle.part_barrier.proofs.mask.words.Goals as goal

pub returns : goal.returns
returns c =
    let mask = c.args.mask.now in
    let count : length mask ≡ 4 = search rules in
    let fits : (i : ℕ) → i < length mask → slice_index_or mask i 0 < 2 ^ 64 = λ i h. search rules in
    four mask count ∙ sym (mask_words_is mask count fits)
