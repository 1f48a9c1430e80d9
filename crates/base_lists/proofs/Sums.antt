-- Sums of the values at the numbers below one.
use Rattle.std.proofs.Common.{◌≡◌, ◌≢◌, inl, inr, ℕ, zero, suc, ◌+◌, ◌-◌, ◌*◌, ◌<◌, ◌≤◌, if◌then◌else◌, eqb, refl, sym}
use Rattle.std.proofs.Common.{ap}
use Rattle.std.proofs.Common.{◌∙◌, arith, eq-eqb, ne_eqb}
use Rattle.std.proofs.lemmas.Bool.{cases_eq}
use Rattle.base_lists.specs.Sums.{sum_below}

-- the same values have the same sum
pub sum_same : (f g : ℕ → ℕ) (n : ℕ) → ((k : ℕ) → k < n → f k ≡ g k) → sum_below f n ≡ sum_below g n
sum_same f g zero same = refl
sum_same f g (suc n) same =
    let ih = sum_same f g n (λ k low. same k (omega arith)) in
    let here = same n (omega arith) in
    omega arith

-- values that are one greater at one number have a sum that is one greater
pub sum_more : (f g : ℕ → ℕ) (one n : ℕ) → one < n → g one ≡ suc (f one) → ((k : ℕ) → k ≢ one → g k ≡ f k)
    → sum_below g n ≡ suc (sum_below f n)
sum_more f g one zero low here same = absurd (omega arith)
sum_more f g one (suc n) low here same = elim (cases_eq n one) [
  | inl e ↦ (let below = sum_same g f n (λ k l. same k (λ h. omega (arith, h, e, l))) in
      let at : g n ≡ suc (f n) = ap g e ∙ (here ∙ ap (λ k. suc (f k)) (sym e)) in
      omega arith)
  | inr e ↦ (let ih = sum_more f g one n (omega (arith, e)) here same in let at = same n e in omega arith)
]

-- smaller values have a smaller sum
pub sum_le : (f g : ℕ → ℕ) (n : ℕ) → ((k : ℕ) → k < n → f k ≤ g k) → sum_below f n ≤ sum_below g n
sum_le f g zero le = omega arith
sum_le f g (suc n) le =
    let ih = sum_le f g n (λ k low. le k (omega arith)) in
    let here = le n (omega arith) in
    omega arith

-- zeros have the sum 0
pub sum_none : (f : ℕ → ℕ) (n : ℕ) → ((k : ℕ) → f k ≡ 0) → sum_below f n ≡ 0
sum_none f zero none = refl
sum_none f (suc n) none = let ih = sum_none f n none in let here = none n in omega arith

-- values that are at most so much each
pub sum_most : (f : ℕ → ℕ) (each n : ℕ) → ((k : ℕ) → f k ≤ each) → sum_below f n ≤ n * each
sum_most f each zero le = omega arith
sum_most f each (suc n) le = let ih = sum_most f each n le in let here = le n in grind arith

-- the same value at all numbers but one, which has 0: up to and without that one
sum_all : (one each n : ℕ) → n ≤ one → sum_below (λ k. if eqb k one then 0 else each) n ≡ n * each
sum_all one each zero low = omega arith
sum_all one each (suc n) low =
    let ih = sum_all one each n (omega arith) in
    rw (ne_eqb n one (λ e. omega (arith, e, low))) (grind arith)

-- the same value at all numbers but one, which has 0
pub sum_but_one : (one each n : ℕ) → one < n → sum_below (λ k. if eqb k one then 0 else each) n ≡ (n - 1) * each
sum_but_one one each zero low = absurd (omega arith)
sum_but_one one each (suc n) low = elim (cases_eq n one) [
  | inl e ↦ (let ih = sum_all one each n (omega (arith, e)) in
      let less : suc n - 1 ≡ n = omega arith in
      rw (eq-eqb n one e, less) (omega (arith, ih)))
  | inr e ↦ (let ih = sum_but_one one each n (omega (arith, e, low)) in
      let less : suc n - 1 ≡ suc (n - 1) = omega (arith, e, low) in
      rw (ne_eqb n one e, less) (grind arith))
]

-- values that differ at one number alone have sums that differ so
pub sum_changed : (f g : ℕ → ℕ) (one n : ℕ) → one < n → ((k : ℕ) → k ≢ one → g k ≡ f k)
    → sum_below g n + f one ≡ sum_below f n + g one
sum_changed f g one zero low same = absurd (omega arith)
sum_changed f g one (suc n) low same = elim (cases_eq n one) [
  | inl e ↦ (let below = sum_same g f n (λ k l. same k (λ h. omega (arith, h, e, l))) in
      let old : f n ≡ f one = ap f e in
      let new : g n ≡ g one = ap g e in
      omega arith)
  | inr e ↦ (let ih = sum_changed f g one n (omega (arith, e)) same in let at = same n e in omega arith)
]

-- the same value at each number
pub sum_each : (each n : ℕ) → sum_below (λ k. each) n ≡ n * each
sum_each each zero = omega arith
sum_each each (suc n) = let ih = sum_each each n in grind arith
