-- A ring of places in rising order, which begins and ends at a head.
use Rattle.std.specs.Prelude.{ℕ, ◌≡◌, ◌≢◌, ◌⊎◌, ◌+◌, ◌*◌, ◌<◌, ◌≤◌, Bool, true, false, if◌then◌else◌, ◌==◌}
pub use Rattle.base_lists.specs.Put.{put}

-- the place is the head, or is listed
abbrev pub IsOn : ℕ → (ℕ → Bool) → ℕ → Type 0
IsOn head listed index = (index ≡ head) ⊎ (listed index ≡ true)

-- a place with its time comes before another with its own
abbrev pub IsBefore : ℕ → ℕ → ℕ → ℕ → Type 0
IsBefore time index other_time other_index = (time ≤ other_time) × (other_time ≡ time → index < other_index)

-- the listed places are in a ring with the head, in rising order from it to it
pub record IsRing (head : ℕ) (next previous time : ℕ → ℕ) (listed : ℕ → Bool) : Type 0 where
  pub apart : listed head ≡ false
  pub below : (index : ℕ) → listed index ≡ true → index < head
  pub next_on : (index : ℕ) → IsOn head listed index → IsOn head listed (next index)
  pub previous_on : (index : ℕ) → IsOn head listed index → IsOn head listed (previous index)
  pub there : (index : ℕ) → IsOn head listed index → previous (next index) ≡ index
  pub back : (index : ℕ) → IsOn head listed index → next (previous index) ≡ index
  pub rising : (index : ℕ) → IsOn head listed index → index ≢ head → next index ≢ head
      → IsBefore (time index) index (time (next index)) (next index)

-- a number that falls from a place to the one before it, and is 0 at the head
abbrev pub weight : ℕ → (ℕ → ℕ) → ℕ → ℕ
weight head time index = if index == head then 0 else time index * (head + 1) + index + 1
