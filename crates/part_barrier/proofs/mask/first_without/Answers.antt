use Rattle.std.proofs.Common.{◌≡◌, ◌<◌, ◌^◌, ℕ, true, inl, inr, ◌+◌, ◌-◌, ◌*◌, length, sym, ap, subst, arith, rules}
use Rattle.std.proofs.Common.{nat_lt, slice_index_or, bit_and, ◌∙◌}
use Rattle.std.specs.Int.{bit_at, w64}
use Rattle.std.proofs.lemmas.Bool.{cases_Bool, ltb-true, ltb-false}
use Rattle.std.proofs.lemmas.Nat.Bits.{bit_at-trailing_zeros, bit_at-zero}
use Rattle.wire_message.specs.Notifications.{mask_number}
use Rattle.part_barrier.specs.Masks.{has}
use Rattle.part_barrier.proofs.Words.{covered}
use Rattle.part_barrier.proofs.mask.first_without.Goals as goal

pub returns-then-left-ne0 : goal.returns-then-left-ne0
returns-then-left-ne0 c node below there =
    let mask = c.args.mask.now in
    let other = c.args.other.now in
    let place = c.loop-place.place in
    let fits : (i : ℕ) → i < length mask → slice_index_or mask i 0 < 2 ^ 64 = λ i h. search rules in
    let fitted : (i : ℕ) → i < length other → slice_index_or other i 0 < 2 ^ 64 = λ i h. search rules in
    let left = bit_and (slice_index_or mask place 0) (18446744073709551615 - slice_index_or other place 0) in
    let lowest = bit_at-trailing_zeros w64 left (search rules) (search rules) in
    elim (cases_Bool (nat_lt node (place * 64))) [
      | inl low ↦ c.loop-place.invariant node (ltb-true node (place * 64) low) there
      | inr high ↦
          let from = ltb-false node (place * 64) high in
          let at : node ≡ place * 64 + (node - place * 64) = omega (arith, from) in
          subst (λ n. has (mask_number other) n ≡ true) (sym at)
          (covered mask other place (node - place * 64) (omega (arith, lowest.0, below, from)) (search rules) (search rules) fits fitted
          (lowest.2 (node - place * 64) (omega (arith, below, from)))
          (subst (λ n. has (mask_number mask) n ≡ true) at there))
    ]

pub loop-place-preserved : goal.loop-place-preserved
loop-place-preserved c node below there =
    let mask = c.args.mask.now in
    let other = c.args.other.now in
    let place = c.loop-place.place in
    let fits : (i : ℕ) → i < length mask → slice_index_or mask i 0 < 2 ^ 64 = λ i h. search rules in
    let fitted : (i : ℕ) → i < length other → slice_index_or other i 0 < 2 ^ 64 = λ i h. search rules in
    let left = bit_and (slice_index_or mask place 0) (18446744073709551615 - slice_index_or other place 0) in
    let none : left ≡ 0 = search rules in
    elim (cases_Bool (nat_lt node (place * 64))) [
      | inl low ↦ c.loop-place.invariant node (ltb-true node (place * 64) low) there
      | inr high ↦
          let from = ltb-false node (place * 64) high in
          let at : node ≡ place * 64 + (node - place * 64) = omega (arith, from) in
          subst (λ n. has (mask_number other) n ≡ true) (sym at)
          (covered mask other place (node - place * 64) (omega (arith, below, from)) (search rules) (search rules) fits fitted
          (ap (λ n. bit_at n (node - place * 64)) none ∙ bit_at-zero (node - place * 64))
          (subst (λ n. has (mask_number mask) n ≡ true) at there))
    ]
