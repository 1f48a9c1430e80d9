-- The credits of all pairs, where one pair has others.
use Rattle.std.proofs.Common.{◌≡◌, ◌≢◌, inl, inr, ℕ, zero, suc, ◌+◌, ◌*◌, ◌-◌, ◌<◌, ◌≤◌, ◌⊎◌, Bool, true, false, ◌&&◌}
use Rattle.std.proofs.Common.{eqb, [], Some, if◌then◌else◌, refl, sym, ap, ◌∙◌, arith}
use Rattle.std.proofs.Common.{eq-eqb, ne_eqb}
use Rattle.std.specs.Prelude.{unwrap_or}
use Rattle.base_lists.specs.Sums.{sum_below}
use Rattle.base_lists.proofs.Sums.{sum_same, sum_changed}
use Rattle.wire_message.specs.declared.pairs.PairCredits.{PairCredits}
use Rattle.wire_message.specs.Parameters.{Parameters, own_credits, credits_of, credits_towards, credits_in_all}
use Rattle.wire_message.proofs.Credits.{even_sum}
use Rattle.text_job.specs.Places.{in_place}

-- a test of two nodes that aren't both these
no_both : (pair : PairCredits) (from to : ℕ) → (pair.from ≢ from) ⊎ (pair.to ≢ to) → (eqb pair.from from
    && eqb pair.to to) ≡ false
no_both pair from to other = elim other [
  | inl h ↦ rw (ne_eqb pair.from from h) refl
  | inr h ↦ rw (ne_eqb pair.to to h) (go (eqb pair.from from))
]
  where
    go : (test : Bool) → (test && false) ≡ false
    go true = refl
    go false = refl

-- the sum changes as the credits of that pair do
pub sum_in_place : (settings : Parameters) (pair : PairCredits) → pair.from < settings.nodes
    → pair.to < settings.nodes → pair.from ≢ pair.to
    → credits_in_all (in_place settings pair) + credits_of settings pair.from pair.to
    ≡ credits_in_all settings + pair.credits
unfolding credits_in_all credits_of
sum_in_place settings pair low below apart =
    let n = settings.nodes in
    let more = in_place settings pair in
    let other : eqb pair.to pair.from ≡ false = ne_eqb pair.to pair.from (λ e. apart (sym e)) in
    let that : credits_towards more pair.from pair.to ≡ pair.credits =
    rw (other, eq-eqb pair.from pair.from refl, eq-eqb pair.to pair.to refl) refl in
    let was : credits_towards settings pair.from pair.to ≡ unwrap_or
    (own_credits settings.pairs pair.from pair.to) settings.credits =
    rw other refl in
    let others : (from to : ℕ) → (pair.from ≢ from) ⊎ (pair.to ≢ to) → credits_towards more from to
    ≡ credits_towards settings from to =
    λ from to h. ap (λ (own : Bool). if eqb to from then 0 else unwrap_or
    (if own then Some pair.credits else own_credits settings.pairs from to) settings.credits)
    (no_both pair from to h) in
    let row = sum_changed (credits_towards settings pair.from) (credits_towards more pair.from) pair.to n below
    (λ to h. others pair.from to (inr (λ e. h (sym e)))) in
    let rows = sum_changed (λ from. sum_below (credits_towards settings from) n) (λ from. sum_below
    (credits_towards more from) n)
    pair.from n low
    (λ from h. sum_same (credits_towards more from) (credits_towards settings from) n (λ to l. others from to
    (inl (λ e. h (sym e))))) in
    omega arith

-- the sum where no pair has credits of its own
pub even_pair : (settings : Parameters) → settings.pairs ≡ [] → credits_in_all settings ≡ settings.nodes *
    (settings.nodes - 1) * credits_of settings 0 1
unfolding credits_of
even_pair settings none = even_sum settings none ∙ ap (λ (c : ℕ). settings.nodes * (settings.nodes - 1) * c) (sym
    (rw none refl))

-- and that of one node
lone_by : (nodes credits : ℕ) → 1 ≤ nodes → nodes ≤ 1 → nodes * (nodes - 1) * credits ≡ 0
lone_by zero credits low high = absurd (omega arith)
lone_by (suc zero) credits low high = grind arith
lone_by (suc (suc nodes)) credits low high = absurd (omega arith)

pub lone_sum : (settings : Parameters) → settings.pairs ≡ [] → 1 ≤ settings.nodes → settings.nodes ≤ 1
    → credits_in_all settings ≡ 0
lone_sum settings none low high = even_sum settings none ∙ lone_by settings.nodes settings.credits low high
