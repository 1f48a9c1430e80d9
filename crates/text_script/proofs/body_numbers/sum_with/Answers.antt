-- One more byte.
use Rattle.std.proofs.Common.{◌≡◌, ◌∙◌, ap, sym, ℕ, ℤ, ◌+◌, ◌+ℤ◌, ◌<◌, pos, List, length, take, get_or, rules}
use Rattle.std.specs.Int.{int_wrap, w32}
use Rattle.std.specs.List.{sum}
use Rattle.std.proofs.Math.IntN.{+ℤ_assoc, pos-+ℤ-pos}
use Rattle.std.proofs.lemmas.Int.{int_wrap-add_left}
use Rattle.std.proofs.lemmas.List.Sums.{sum_by_more}
use Rattle.text_script.proofs.body_numbers.sum_with.Goals as goal

-- the sum so far and one more byte
sum_step : (number total : ℤ) (bytes : List ℕ) (i d : ℕ) → i < length bytes
    → total ≡ int_wrap w32 (number +ℤ pos (sum (take i bytes)))
    → int_wrap w32 (total +ℤ pos (get_or bytes i d)) ≡ int_wrap w32 (number +ℤ pos (sum (take (i + 1) bytes)))
sum_step number total bytes i d low so_far =
    ap (λ (z : ℤ). int_wrap w32 (z +ℤ pos (get_or bytes i d))) so_far
    ∙ (int_wrap-add_left w32 (number +ℤ pos (sum (take i bytes))) (pos (get_or bytes i d))
    ∙ ap (int_wrap w32) (+ℤ_assoc number (pos (sum (take i bytes))) (pos (get_or bytes i d))
    ∙ (ap (λ (z : ℤ). number +ℤ z) (pos-+ℤ-pos (sum (take i bytes)) (get_or bytes i d))
    ∙ ap (λ (n : ℕ). number +ℤ pos n) (sym (sum_by_more (λ x. x) bytes i d low)))))

pub loop-byte-preserved : goal.loop-byte-preserved
loop-byte-preserved c = search (rules, sum_step)
