-- The buffers of a core for calls on its own node, each the one part of a block.
use Rattle.std.proofs.Common.{◌≡◌, ◌∙◌, ℕ, List, [], ◌∷◌, Option, Some, ap, unwrap_or, drop, length, sym, arith}
use Rattle.std.proofs.Common.{slice_get}
use Rattle.std.specs.List.{refill}
use Rattle.std.proofs.lemmas.List.{take_at}
use Rattle.part_window.specs.Blocks.{with_part}

-- a part of n bytes that was written as a whole has what was written
whole_part : (n : ℕ) (old written found : List ℕ) → length written ≡ n → Some (refill n old written) ≡ Some found
    → found ≡ written
whole_part n old written found len is =
    let same : refill n old written ≡ found = ap (λ (part : Option (List ℕ)). unwrap_or part []) is in
    sym same ∙ take_at written (drop (length written) old) n (omega (arith, len))

-- what the one part is after it was written as a whole
pub sole_written : (parts : List (List ℕ)) (written found : List ℕ) → length parts ≡ 1 → length written ≡ 8296
    → slice_get (with_part parts 0 written) 0 ≡ Some found → found ≡ written
sole_written [] written found one len is = absurd (omega (arith, one))
sole_written (old ∷ others) written found one len is = whole_part 8296 old written found len is
