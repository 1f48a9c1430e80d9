-- Numbers drawn from a seed, and what a round of the drill draws.
use Rattle.std.specs.Prelude.{ℕ, zero, suc, ◌+◌, ◌*◌, ◌/◌, ◌%◌, ◌^◌, ◌==◌, nat_lt, if◌then◌else◌}
use Rattle.sim_drill.specs.declared.rounds.Deed.{Deed}
use Rattle.sim_drill.specs.declared.rounds.Deed.TheVariants.{Short, Put, Tick, Request, Reply}
use Rattle.sim_drill.specs.declared.rounds.Round.{Round}

-- the number that a draw makes of a number
unfoldable pub next : ℕ → ℕ
next number = (number * 6364136223846793005 + 1442695040888963407) % 2 ^ 64

-- the draw: the top 32 bits of the number that it made
unfoldable pub drawn : ℕ → ℕ
drawn number = number / 2 ^ 32

-- ---- a round

-- what a round does, by a number below 8
abbrev pub deed_of : ℕ → Deed
deed_of number =
    if nat_lt number 2 then Short else (
    if number == 2 then Put else (
    if number == 3 then Tick else (
    if nat_lt number 6 then Request else Reply)))

-- what the four draws of a round say, where the first one makes this number
abbrev pub round_by : (first second third fourth : ℕ) → Round
round_by first second third fourth = record {
  deed = deed_of (drawn first % 8);
  from = drawn second % 4;
  to = (drawn second % 4 + 1 + drawn third % 3) % 4;
  rest = drawn fourth;
}

-- a round, by the number before its draws
unfoldable pub round_from : ℕ → Round
round_from number = round_by (next number) (next (next number)) (next (next (next number)))
    (next (next (next (next number))))

-- the number behind the draws of a round
unfoldable pub behind_round : ℕ → ℕ
behind_round number = next (next (next (next number)))

-- the number before this round, counted from 0
unfoldable pub before_round : (seed round : ℕ) → ℕ
before_round seed zero = seed
before_round seed (suc round) = behind_round (before_round seed round)

-- this round, counted from 0
abbrev pub round_at : (seed round : ℕ) → Round
round_at seed round = round_from (before_round seed round)
