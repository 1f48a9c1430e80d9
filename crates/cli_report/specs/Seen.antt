-- What is kept of the bytes that go by.
use Rattle.std.specs.Prelude.{◌≡◌, ◌⊎◌, ℕ, ◌-◌, ◌&&◌, ◌||◌, nat_le, nat_lt, List, [], ◌++◌, length, drop, Bool}
use Rattle.std.specs.Prelude.{if◌then◌else◌}
use Rattle.std.specs.Bool.{MatchBool}

-- bytes are added, unless memory ran out: then others are kept
abbrev pub Adds : (old bytes others new : List ℕ) → Type 0
Adds old bytes others new = (new ≡ old ++ bytes) ⊎ (new ≡ others)

-- the bytes are added at the end, while there are fewer than 8,388,608; where memory runs out, none is kept
abbrev pub KeepsPrefix : (keeps : Bool) → (old bytes new : List ℕ) → Type 0
KeepsPrefix keeps old bytes new =
    MatchBool (keeps && nat_lt (length old) 8388608) (Adds old bytes [] new) (new ≡ old)

-- what is kept before the next bytes: nothing where there are 4,096 here or there
abbrev pub kept_before : (old bytes : List ℕ) → List ℕ
kept_before old bytes = if nat_le 4096 (length old) || nat_le 4096 (length bytes) then [] else old

-- the last 4,096 of the bytes are added to that; where memory runs out, none is
abbrev pub KeepsEnd : (old bytes new : List ℕ) → Type 0
KeepsEnd old bytes new =
    Adds (kept_before old bytes) (drop (length bytes - 4096) bytes) (kept_before old bytes) new

-- the bytes are added; where memory runs out, none is
abbrev pub KeepsAll : (old bytes new : List ℕ) → Type 0
KeepsAll old bytes new = Adds old bytes old new
