-- The numbers that every node of a job knows, and their limits (this project's profile).
use Rattle.std.specs.Prelude.{◌≡◌, ◌≢◌, ℕ, ◌<◌, ◌≤◌, ◌^◌, ◌%◌, ◌==◌, ◌&&◌, true, if◌then◌else◌, List, [], ◌∷◌, ◌++◌}
use Rattle.std.specs.Prelude.{length, Option, None, Some, unwrap_or}
use Rattle.base_lists.specs.Sums.{sum_below}
use Rattle.wire_message.specs.declared.pairs.PairCredits.{PairCredits}
use Rattle.wire_message.specs.Content.{is_version}

-- the version of the datagrams, the job's number, its nodes, the credits of each ordered pair of nodes that has none of
-- its own, the pairs that have, in the order in which they were set, the threads of each node, the bytes of each
-- segment, the last number of a request, and the retransmission time-out (RTO), after which a request is sent again, in
-- the unit of the calls' `now`
pub record Parameters : Type 0 where
  pub version : ℕ
  pub job : ℕ
  pub nodes : ℕ
  pub credits : ℕ
  pub pairs : List PairCredits
  pub threads : ℕ
  pub segment : ℕ
  pub last : ℕ
  pub resend : ℕ

-- ---- credits

-- the credits of the first pair of the list that is this one
abbrev pub own_credits : List PairCredits → (from to : ℕ) → Option ℕ
own_credits [] from to = None
own_credits (pair ∷ pairs) from to =
    if (pair.from == from) && (pair.to == to) then Some pair.credits else own_credits pairs from to

-- how many credits `from` has towards `to`. No proof on records or worlds opens this
unfoldable pub credits_of : Parameters → (from to : ℕ) → ℕ
credits_of settings from to = unwrap_or (own_credits settings.pairs from to) settings.credits

-- those; a node has none towards itself
abbrev pub credits_towards : Parameters → (from to : ℕ) → ℕ
credits_towards settings from to = if to == from then 0 else credits_of settings from to

-- the credits of all ordered pairs together
unfoldable pub credits_in_all : Parameters → ℕ
credits_in_all settings = sum_below (λ from. sum_below (credits_towards settings from) settings.nodes) settings.nodes

-- the settings where this pair has credits of its own, too
abbrev pub with_pair : Parameters → PairCredits → Parameters
with_pair settings pair = record settings { pairs = settings.pairs ++ pair ∷ [] }

-- the settings with datagrams of version 2
abbrev pub as_version_2 : Parameters → Parameters
as_version_2 settings = record settings { version = 2 }

-- ---- limits

-- the credits are of two different nodes, and within their limits
pub record IsPair (nodes : ℕ) (pair : PairCredits) : Type 0 where
  pub from : pair.from < nodes
  pub to : pair.to < nodes
  pub apart : pair.from ≢ pair.to
  pub some_credit : 1 ≤ pair.credits
  pub credits : pair.credits ≤ 32

-- so are those of each pair, and none stands there twice
abbrev pub ArePairs : (nodes : ℕ) → List PairCredits → Type 0
ArePairs nodes [] = Unit {0}
ArePairs nodes (pair ∷ pairs) =
    IsPair nodes pair × (own_credits pairs pair.from pair.to ≡ None) × ArePairs nodes pairs

-- each number is within its limits
pub record AreInRange (asked : Parameters) : Type 0 where
  pub version : is_version asked.version ≡ true
  pub some_node : 1 ≤ asked.nodes
  pub nodes : asked.nodes ≤ 256
  pub nodes_at_first : asked.version ≡ 1 → asked.nodes ≤ 64
  pub some_credit : 1 ≤ asked.credits
  pub credits : asked.credits ≤ 32
  pub pairs : ArePairs asked.nodes asked.pairs
  pub few_pairs : length asked.pairs ≤ 64
  pub some_thread : 1 ≤ asked.threads
  pub threads : asked.threads ≤ 16
  pub pages : asked.segment % 4096 ≡ 0
  pub some_page : 4096 ≤ asked.segment
  pub segment : asked.segment ≤ 2 ^ 40
  pub last : 1 ≤ asked.last
  pub some_time : 1 ≤ asked.resend
  pub resend : asked.resend ≤ 1000000
