-- Places of a list.
use Rattle.std.proofs.Common.{◌≡◌, ℕ, zero, suc, ◌+◌, ◌^◌, ◌<◌, ◌≤◌, List, ◌∷◌, ◌++◌, length, get_or, drop, refl, sym}
use Rattle.std.proofs.Common.{ap, ◌∙◌, arith}
use Rattle.std.specs.Int.{w16, w64, to_be_bytes}
use Rattle.std.proofs.lemmas.List.{drop_more}
use Rattle.std.proofs.lemmas.Nat.{be_bytes_2, be_bytes_8}
use Rattle.wire_message.specs.Refusals.{cells, number_at}
use Rattle.wire_message.proofs.Words.{IsBytes}

pub cells_drop : (b : List ℕ) (at n : ℕ) → at + n ≤ length b → cells b at n ++ drop (at + n) b ≡ drop at b
cells_drop b at zero h = let e : at + 0 ≡ at = omega arith in ap (λ (k : ℕ). drop k b) e
cells_drop b at (suc n) h =
    let e : at + suc n ≡ at + 1 + n = omega arith in
    ap (λ (k : ℕ). get_or b at 0 ∷ (cells b (at + 1) n ++ drop k b)) e
    ∙ ap (λ (xs : List ℕ). get_or b at 0 ∷ xs) (cells_drop b (at + 1) n (omega arith))
    ∙ sym (drop_more b at 0 (omega arith))

pub cells_bytes : (b : List ℕ) (at n : ℕ) → IsBytes b → IsBytes (cells b at n)
cells_bytes b at zero h i = omega arith
cells_bytes b at (suc n) h zero = h at
cells_bytes b at (suc n) h (suc i) = cells_bytes b (at + 1) n h i

pub two_back : (b : List ℕ) (at : ℕ) → IsBytes b → to_be_bytes w16 (number_at w16 b at) ≡ cells b at 2
two_back b at h = be_bytes_2 (cells b at 2) _ refl (cells_bytes b at 2 h) refl

pub eight_back : (b : List ℕ) (at : ℕ) → IsBytes b → to_be_bytes w64 (number_at w64 b at) ≡ cells b at 8
eight_back b at h = be_bytes_8 (cells b at 8) _ refl (cells_bytes b at 8 h) refl

pub two_below : (b : List ℕ) (at : ℕ) → IsBytes b → number_at w16 b at < 2 ^ 16
two_below b at h = omega (arith, h at, h (at + 1))

pub eight_below : (b : List ℕ) (at : ℕ) → IsBytes b → number_at w64 b at < 2 ^ 64
eight_below b at h =
    let four : ℕ = at + 1 + 1 + 1 + 1 in
    omega (
      arith,
      h at,
      h (at + 1),
      h (at + 1 + 1),
      h (at + 1 + 1 + 1),
      h four,
      h (four + 1),
      h (four + 1 + 1),
      h (four + 1 + 1 + 1),
    )
