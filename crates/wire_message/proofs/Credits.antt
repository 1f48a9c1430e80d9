-- The credits of pairs of nodes.
use Rattle.std.proofs.Common.{◌≡◌, ◌≢◌, inl, inr, ℕ, ◌+◌, ◌-◌, ◌*◌, ◌<◌, ◌≤◌, Bool, true, false, ◌&&◌, ◌⊎◌}
use Rattle.std.proofs.Common.{if◌then◌else◌, eqb, List, [], ◌∷◌, ◌++◌, Option, Some, None, refl, sym, ap, ◌∙◌, arith}
use Rattle.std.proofs.Common.{eq-eqb, ne_eqb, true≢false}
use Rattle.std.specs.Prelude.{unwrap_or}
use Rattle.std.proofs.lemmas.Bool.{cases_eq}
use Rattle.base_lists.specs.Sums.{sum_below}
use Rattle.base_lists.proofs.Sums.{sum_same, sum_each, sum_changed, sum_but_one}
use Rattle.wire_message.specs.declared.pairs.PairCredits.{PairCredits}
use Rattle.wire_message.specs.Parameters.{Parameters, AreInRange, IsPair, ArePairs, own_credits, credits_of}
use Rattle.wire_message.specs.Parameters.{credits_towards}
use Rattle.wire_message.specs.Parameters.{credits_in_all, with_pair}

-- ---- the credits of a pair among those of a list

-- the test of `own_credits`
abbrev is_that : PairCredits → (from to : ℕ) → Bool
is_that pair from to = eqb pair.from from && eqb pair.to to

-- a pair that is found at the prefix isn't what stands behind it
-- the test, where one of the nodes is another
no_that : (pair : PairCredits) (from to : ℕ) → (pair.from ≢ from) ⊎ (pair.to ≢ to) → is_that pair from to ≡ false
no_that pair from to other = elim other [
  | inl h ↦ rw (ne_eqb pair.from from h) refl
  | inr h ↦ rw (ne_eqb pair.to to h) (go (eqb pair.from from))
]
  where
    go : (test : Bool) → (test && false) ≡ false
    go true = refl
    go false = refl

-- the test is the same from both sides
that_back : (pair other : PairCredits) → is_that pair other.from other.to ≡ false
    → is_that other pair.from pair.to ≡ false
that_back pair other e = elim (cases_eq pair.from other.from) [
  | inl same ↦ (elim (cases_eq pair.to other.to) [
    | inl too ↦ absurd (true≢false (sym (rw (eq-eqb pair.from other.from same, eq-eqb pair.to other.to too) refl) ∙ e))
    | inr h ↦ no_that other pair.from pair.to (inr (λ q. h (sym q)))
  ])
  | inr h ↦ no_that other pair.from pair.to (inl (λ q. h (sym q)))
]

prefix : (pair : PairCredits) (pairs : List PairCredits) (from to : ℕ) → own_credits (pair ∷ pairs) from to ≡ None
    → (is_that pair from to ≡ false) × (own_credits pairs from to ≡ None)
prefix pair pairs from to e = go (is_that pair from to) e
  where
    go : (test : Bool) → (if test then Some pair.credits else own_credits pairs from to) ≡ None
        → (test ≡ false) × (own_credits pairs from to ≡ None)
    go true h = absurd cc
    go false h = (refl, h)

-- one more pair at the end: where the pair wasn't there
pub own_added : (pairs : List PairCredits) (pair : PairCredits) (from to : ℕ) → own_credits pairs from to ≡ None
    → own_credits (pairs ++ pair ∷ []) from to ≡ own_credits (pair ∷ []) from to
own_added [] pair from to none = refl
own_added (first ∷ pairs) pair from to none =
    let parts = prefix first pairs from to none in
    rw parts.0 (own_added pairs pair from to parts.1)

-- one more pair at the end: of another one
pub own_others : (pairs : List PairCredits) (pair : PairCredits) (from to : ℕ) → is_that pair from to ≡ false
    → own_credits (pairs ++ pair ∷ []) from to ≡ own_credits pairs from to
own_others [] pair from to other = rw other refl
own_others (first ∷ pairs) pair from to other =
    ap (λ rest. if is_that first from to then Some first.credits else rest) (own_others pairs pair from to other)

-- ---- one more pair

pub pairs_added : (nodes : ℕ) (pairs : List PairCredits) (pair : PairCredits) → ArePairs nodes pairs → IsPair nodes pair
    → own_credits pairs pair.from pair.to ≡ None → ArePairs nodes (pairs ++ pair ∷ [])
pairs_added nodes [] pair are is none = (is, refl, tt)
pairs_added nodes (first ∷ pairs) pair are is none =
    let parts = prefix first pairs pair.from pair.to none in (
      are.0,
      own_others pairs pair first.from first.to (that_back first pair parts.0) ∙ are.1,
      pairs_added nodes pairs pair are.2 is parts.1,
    )

-- a pair isn't the last one where it isn't found
not_last : (pairs : List PairCredits) (pair : PairCredits) (from to : ℕ)
    → own_credits (pairs ++ pair ∷ []) from to ≡ None → is_that pair from to ≡ false
not_last [] pair from to none = (prefix pair [] from to none).0
not_last (first ∷ pairs) pair from to none =
    not_last pairs pair from to (prefix first (pairs ++ pair ∷ []) from to none).1

-- what is known of the last pair
pub record IsLast (nodes : ℕ) (pairs : List PairCredits) (pair : PairCredits) : Type 0 where
  pub is : IsPair nodes pair
  pub none : own_credits pairs pair.from pair.to ≡ None

pub last_pair : (nodes : ℕ) (pairs : List PairCredits) (pair : PairCredits) → ArePairs nodes (pairs ++ pair ∷ [])
    → IsLast nodes pairs pair
last_pair nodes [] pair are = record { is = are.0; none = refl }
last_pair nodes (first ∷ pairs) pair are =
    let last = last_pair nodes pairs pair are.2 in
    let other = that_back pair first (not_last pairs pair first.from first.to are.1) in
    record { is = last.is; none = rw other last.none }

-- ---- the range

pub record AreFew (credits : ℕ) : Type 0 where
  pub some : 1 ≤ credits
  pub few : credits ≤ 32

few_own : (nodes others : ℕ) (pairs : List PairCredits) (from to : ℕ) → ArePairs nodes pairs → AreFew others
    → AreFew (unwrap_or (own_credits pairs from to) others)
few_own nodes others [] from to are few = few
few_own nodes others (first ∷ pairs) from to are few =
    go (is_that first from to) (few_own nodes others pairs from to are.2 few)
  where
    go : (test : Bool) → AreFew (unwrap_or (own_credits pairs from to) others)
        → AreFew (unwrap_or (if test then Some first.credits else own_credits pairs from to) others)
    go true rest = record { some = are.0.some_credit; few = are.0.credits }
    go false rest = rest

-- the credits of a pair of nodes are 1 to 32
pub few_credits : (settings : Parameters) → AreInRange settings → (from to : ℕ) → AreFew (credits_of settings from to)
unfolding credits_of
few_credits settings range from to =
    few_own settings.nodes settings.credits settings.pairs from to range.pairs
    (record { some = range.some_credit; few = range.credits })

-- ---- the sum

-- where no pair has credits of its own
pub even_sum : (settings : Parameters) → settings.pairs ≡ []
    → credits_in_all settings ≡ settings.nodes * (settings.nodes - 1) * settings.credits
unfolding credits_in_all credits_of
even_sum settings none =
    let n = settings.nodes in
    let row : (from : ℕ) → from < n → sum_below (credits_towards settings from) n ≡ (n - 1) * settings.credits =
    λ from low. rw none (sum_but_one from settings.credits n low) in
    sum_same (λ from. sum_below (credits_towards settings from) n) (λ from. (n - 1) * settings.credits) n row
    ∙ (sum_each ((n - 1) * settings.credits) n ∙ grind arith)

-- where one more pair has
pub sum_with_pair : (settings : Parameters) (pair : PairCredits) → IsPair settings.nodes pair
    → own_credits settings.pairs pair.from pair.to ≡ None
    → credits_in_all (with_pair settings pair) + settings.credits ≡ credits_in_all settings + pair.credits
unfolding credits_in_all credits_of
sum_with_pair settings pair is none =
    let n = settings.nodes in
    let more = with_pair settings pair in
    let apart : eqb pair.to pair.from ≡ false = ne_eqb pair.to pair.from (λ e. is.apart (sym e)) in
    let here : own_credits (pair ∷ []) pair.from pair.to ≡ Some pair.credits =
    rw (eq-eqb pair.from pair.from refl, eq-eqb pair.to pair.to refl) refl in
    let that : credits_towards more pair.from pair.to ≡ pair.credits =
    rw apart (ap (λ (own : Option ℕ). unwrap_or own settings.credits)
    (own_added settings.pairs pair pair.from pair.to none ∙ here)) in
    let was : credits_towards settings pair.from pair.to ≡ settings.credits =
    rw apart (ap (λ (own : Option ℕ). unwrap_or own settings.credits) none) in
    let others : (from to : ℕ) → (pair.from ≢ from) ⊎ (pair.to ≢ to)
    → credits_towards more from to ≡ credits_towards settings from to =
    λ from to h. ap (λ (own : Option ℕ). if eqb to from then 0 else unwrap_or own settings.credits)
    (own_others settings.pairs pair from to (no_that pair from to h)) in
    let row = sum_changed (credits_towards settings pair.from) (credits_towards more pair.from) pair.to n is.to
    (λ to h. others pair.from to (inr (λ e. h (sym e)))) in
    let rows = sum_changed (λ from. sum_below (credits_towards settings from) n)
    (λ from. sum_below (credits_towards more from) n)
    pair.from n is.from
    (λ from h. sum_same (credits_towards more from) (credits_towards settings from) n
    (λ to low. others from to (inl (λ e. h (sym e))))) in
    omega arith
