-- Draws, and the rounds that they give.
use Rattle.std.proofs.Common.{◌≡◌, ℕ, suc, ◌+◌, ◌*◌, ◌%◌, ◌^◌, ◌<◌, eqb, false, refl, sym, arith}
use Rattle.std.proofs.lemmas.Bool.{ne_eqb}
use Rattle.std.proofs.Math.Nat.{mod-add-mod, mod-lt}
use Rattle.sim_drill.specs.Draws.{next, drawn, round_from, behind_round, before_round, round_at}

-- the two steps of a draw are one
pub next_by : (number : ℕ)
    → (number * 6364136223846793005 % 2 ^ 64 + 1442695040888963407) % 2 ^ 64 ≡ next number
unfolding next
next_by number = mod-add-mod (number * 6364136223846793005) (2 ^ 64) 1442695040888963407

-- the nodes of a round are there
pub from_there : (number : ℕ) → (round_from number).from < 4
unfolding round_from
from_there number = mod-lt (drawn (next (next number))) (omega arith)

pub to_there : (number : ℕ) → (round_from number).to < 4
unfolding round_from
to_there number = mod-lt _ (omega arith)

-- and differ
apart_by : (first second : ℕ) → first < 4 → second < 3 → (first + 1 + second) % 4 ≡ first → ⊥
apart_by first second few fewer e = omega (arith, few, fewer, e)

pub apart_there : (number : ℕ) → eqb (round_from number).to (round_from number).from ≡ false
unfolding round_from
apart_there number =
    let first = drawn (next (next number)) in
    let second = drawn (next (next (next number))) in
    ne_eqb ((first % 4 + 1 + second % 3) % 4) (first % 4) (apart_by (first % 4) (second % 3)
    (mod-lt first (omega arith)) (mod-lt second (omega arith)))

-- the number before the next round
pub before_next : (seed round : ℕ) → behind_round (before_round seed round) ≡ before_round seed (round + 1)
unfolding before_round
before_next seed round = let more : round + 1 ≡ suc round = omega arith in rw more refl

pub before_first : (seed : ℕ) → before_round seed 0 ≡ seed
unfolding before_round
before_first seed = refl
