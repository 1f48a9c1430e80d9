-- The tests of the rounds.
use Rattle.std.proofs.Common.{◌≡◌, ℕ, zero, suc, ◌+◌, ◌-◌, ◌%◌, ◌^◌, ◌<◌, ◌*◌, ◌≤◌, true, false}
use Rattle.std.proofs.Common.{inl, inr, refl, sym, ap, ◌∙◌, arith, eqb, ltb}
use Rattle.std.specs.Prelude.{bit_or, not, nat_lt}
use Rattle.std.proofs.lemmas.Bool.{cases_eq, cases_lt, and_parts}
use Rattle.std.proofs.Math.Pow.{pow-lt}
use Rattle.std.proofs.Math.Nat.{mod-eq_of_lt}
use Rattle.std.proofs.lemmas.Bool.Decides.{nat_tests}
use Rattle.part_barrier.specs.Masks.{has, has_all}
use Rattle.part_barrier.specs.Route.{has_back, is_round, any_round}
use Rattle.part_barrier.proofs.Combining.{has_or}
use Rattle.part_barrier.proofs.Covering.{has_own, has_other}
use Rattle.std.proofs.Math.Bool.{or-false, or-true, and-false}

pow_some : (number : ℕ) → 1 ≤ 2 ^ number
pow_some zero = omega arith
pow_some (suc number) = omega (arith, pow_some number)

-- a node that isn't in the mask
pub has_back-false : (nodes me mask many back : ℕ) → back < many → has mask ((me + nodes - back) % nodes) ≡ false
    → has_back nodes me mask many ≡ false
has_back-false nodes me mask zero back low is = absurd (omega arith)
has_back-false nodes me mask (suc last) back low is = elim (cases_eq back last) [
  | inl equal ↦ (let at : has mask ((me + nodes - last) % nodes) ≡ false =
      ap (λ place. has mask ((me + nodes - place) % nodes)) (sym equal) ∙ is in
      rw at (and-false (has_back nodes me mask last)))
  | inr unlike ↦ rw (has_back-false nodes me mask last back (omega arith) is) refl
]

-- ---- all rounds are among the first eight

pub pow_up : (round rounds : ℕ) → round ≤ rounds → 2 ^ round ≤ 2 ^ rounds
pow_up round rounds low = elim (cases_eq round rounds) [
  | inl is ↦ omega (arith, ap (λ power. 2 ^ power) is)
  | inr unlike ↦ omega (arith, pow-lt {i = round} {j = rounds} (omega arith))
]

no_round : (nodes me mask to round : ℕ) → nodes ≤ 2 ^ round → is_round nodes me mask to round ≡ false
no_round nodes me mask to round low =
    let test : ltb (2 ^ round) nodes ≡ false = grind (arith, nat_tests) in
    rw test refl

rounds_end : (nodes me mask to round rounds : ℕ) → round ≤ rounds → nodes ≤ 2 ^ round
    → any_round nodes me mask to rounds ≡ any_round nodes me mask to round
rounds_end nodes me mask to round zero low few =
    let none : zero ≡ round = omega (arith, low) in ap (any_round nodes me mask to) none
rounds_end nodes me mask to round (suc rounds) low few = elim (cases_eq round (suc rounds)) [
  | inl is ↦ ap (any_round nodes me mask to) (sym is)
  | inr unlike ↦ (
      let lower : round ≤ rounds = omega arith in
      let none = no_round nodes me mask to rounds (omega (arith, few, pow_up round rounds lower)) in
      rw (none, rounds_end nodes me mask to round rounds lower few) (or-false (any_round nodes me mask to round))
      )
]

enough : (nodes : ℕ) → nodes ≤ 2 ^ nodes
enough zero = omega arith
enough (suc nodes) = omega (arith, enough nodes, pow_some nodes)

pub rounds_are : (nodes me mask to : ℕ) → nodes ≤ 256 → any_round nodes me mask to nodes ≡ any_round nodes me mask to 8
rounds_are nodes me mask to few = elim (cases_lt nodes 8) [
  | inl low ↦ sym (rounds_end nodes me mask to nodes 8 (omega (arith, low)) (enough nodes))
  | inr high ↦ rounds_end nodes me mask to 8 nodes (omega (arith, high)) few
]

-- `1 << round` in 16 bits
pub shift_is : (round : ℕ) → round < 16 → 1 * 2 ^ round % 65536 ≡ 2 ^ round
shift_is round low =
    let plain : 1 * 2 ^ round ≡ 2 ^ round = omega arith in
    let small : 2 ^ round < 65536 = pow-lt {i = round} {j = 16} low in
    ap (λ step. step % 65536) plain ∙ mod-eq_of_lt small

-- ---- the nodes in the mask before the first that isn't

-- fewer of them are there too
has_back_less : (nodes me mask many fewer : ℕ) → fewer ≤ many → has_back nodes me mask many ≡ true
    → has_back nodes me mask fewer ≡ true
has_back_less nodes me mask zero fewer low is = let none : zero ≡ fewer = omega (arith, low) in
    ap (has_back nodes me mask) (sym none) ∙ is
has_back_less nodes me mask (suc last) fewer low is = elim (cases_eq fewer (suc last)) [
  | inl same ↦ ap (has_back nodes me mask) same ∙ is
  | inr unlike ↦ has_back_less nodes me mask last fewer (omega (arith, low, unlike))
      (and_parts (has_back nodes me mask last) (has mask ((me + nodes - last) % nodes)) is).0
]

-- so many are there, and the next one isn't
pub known_to : (nodes me mask known many : ℕ) → has_back nodes me mask known ≡ true
    → has mask ((me + nodes - known) % nodes) ≡ false → has_back nodes me mask many ≡ not (nat_lt known many)
known_to nodes me mask known many is isnt = elim (cases_lt known many) [
  | inl less ↦ (let test : ltb known many ≡ true = grind (arith, nat_tests) in
      rw test (has_back-false nodes me mask many known less isnt))
  | inr more ↦ (let test : ltb known many ≡ false = grind (arith, nat_tests) in
      rw test (has_back_less nodes me mask known many more is))
]

-- all are there
pub known_all : (nodes me mask many : ℕ) → has_back nodes me mask nodes ≡ true → many ≤ nodes
    → has_back nodes me mask many ≡ not (nat_lt nodes many)
known_all nodes me mask many is low =
    let test : ltb nodes many ≡ false = grind (arith, nat_tests) in
    rw test (has_back_less nodes me mask nodes many low is)

-- ---- a round more

-- a round that sends puts its node into the mask of those that get a notification
pub round_more : (nodes me mask far round goes to : ℕ) → 2 ^ round < nodes → has_back nodes me mask (2 ^ round) ≡ true
    → far ≡ (me + 2 ^ round) % nodes → has goes to ≡ any_round nodes me mask to round
    → has (bit_or goes (2 ^ far)) to ≡ any_round nodes me mask to (suc round)
round_more nodes me mask far round goes to low known place before =
    let below : ltb (2 ^ round) nodes ≡ true = grind (arith, nat_tests) in
    elim (cases_eq to far) [
      | inl here ↦ (let goes_there : eqb ((me + 2 ^ round) % nodes) to ≡ true = grind (arith, nat_tests) in
          rw (has_or goes (2 ^ far) to, here, has_own far, ← here, below, goes_there, known)
          (or-true (has goes to) ∙ sym (or-true (any_round nodes me mask to round))))
      | inr other ↦ (let goes_there : eqb ((me + 2 ^ round) % nodes) to ≡ false = grind (arith, nat_tests) in
          rw (has_or goes (2 ^ far) to, has_other far to other, below, goes_there, before) refl)
    ]

-- one that doesn't leaves it
pub round_less : (nodes me mask round to : ℕ) → (2 ^ round < nodes → has_back nodes me mask (2 ^ round) ≡ false)
    → any_round nodes me mask to (suc round) ≡ any_round nodes me mask to round
round_less nodes me mask round to isnt = elim (cases_lt (2 ^ round) nodes) [
  | inl low ↦ (let below : ltb (2 ^ round) nodes ≡ true = grind (arith, nat_tests) in
      rw (below, isnt low, and-false (eqb ((me + 2 ^ round) % nodes) to)) (or-false (any_round nodes me mask to round)))
  | inr high ↦ rw (no_round nodes me mask to round high) (or-false (any_round nodes me mask to round))
]

-- ---- all nodes

pub has_all-false : (mask nodes node : ℕ) → node < nodes → has mask node ≡ false → has_all mask nodes ≡ false
has_all-false mask zero node low is = absurd (omega arith)
has_all-false mask (suc last) node low is = elim (cases_eq node last) [
  | inl equal ↦ (let at : has mask last ≡ false = ap (has mask) (sym equal) ∙ is in
      rw at (and-false (has_all mask last)))
  | inr unlike ↦ rw (has_all-false mask last node (omega arith) is) refl
]
