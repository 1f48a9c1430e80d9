-- The credits of a pair, and the bound that they give of what a node holds.
use Rattle.std.specs.Prelude.{ℕ, ◌+◌, ◌==◌, if◌then◌else◌}
use Rattle.wire_message.specs.Parameters.{Parameters, credits_of}
use Rattle.base_lists.specs.Sums.{sum_below}

-- what bounds the requests of one ordered pair of nodes
pub record Limits : Type 0 where
  pub credits : ℕ  -- how many may be out at a time; slots are below
  pub last : ℕ  -- how many may be accepted in all

abbrev pub limits_of : Parameters → (from to : ℕ) → Limits
limits_of settings from to = record { credits = credits_of settings from to; last = settings.last }

-- the credits of the node towards the peer and of the peer towards the node; a node has none towards itself
abbrev pub credits_with : Parameters → (me peer : ℕ) → ℕ
credits_with settings me peer =
    if peer == me then 0 else credits_of settings me peer + credits_of settings peer me

-- the most message buffers that a node may hold: the sum of these over its peers
abbrev pub greatest_holding : Parameters → (me : ℕ) → ℕ
greatest_holding settings me = sum_below (credits_with settings me) settings.nodes
