-- The order in which messages are sent again, as it is kept and as a value.
use Rattle.std.specs.Prelude.{ℕ, ◌≡◌, ◌≢◌, ◌-◌, ◌≤◌, Bool, false, List, length, Option, Some, None}
use Rattle.std.specs.Prelude.{slice_get, if◌then◌else◌}
use Rattle.part_window.specs.Ring.{IsOn, IsBefore, IsRing}
use Rattle.part_window.specs.declared.order.Due.{Due}
use Rattle.part_window.specs.declared.order.DueEntry.{DueEntry}

-- what is due at a place that is listed
abbrev pub due_of : DueEntry → Due
due_of entry = record { time = entry.time; node = entry.node; slot = entry.slot }

-- what is due at a place, where it is listed
abbrev pub due_view : DueEntry → Option Due
due_view entry = if entry.listed then Some (due_of entry) else None

-- the places behind and before a place, its time, and whether it is listed
abbrev pub next_at : List DueEntry → ℕ → ℕ
next_at entries index = elim (slice_get entries index) [ Some entry ↦ entry.next | None ↦ 0 ]

abbrev pub previous_at : List DueEntry → ℕ → ℕ
previous_at entries index = elim (slice_get entries index) [ Some entry ↦ entry.previous | None ↦ 0 ]

abbrev pub time_at : List DueEntry → ℕ → ℕ
time_at entries index = elim (slice_get entries index) [ Some entry ↦ entry.time | None ↦ 0 ]

abbrev pub listed_at : List DueEntry → ℕ → Bool
listed_at entries index = elim (slice_get entries index) [ Some entry ↦ entry.listed | None ↦ false ]

-- the entry of a place that was never listed
abbrev pub blank_entry : DueEntry
blank_entry = record { time = 0; node = 0; slot = 0; previous = 0; next = 0; listed = false }

-- the last entry, where the ring begins and ends
abbrev pub head_of : List DueEntry → ℕ
head_of entries = length entries - 1

-- the listed entries are in a ring with the last one, in rising order of their times and then of their places
pub record IsOrder (entries : List DueEntry) : Type 0 where
  pub some : 1 ≤ length entries
  pub small : length entries ≤ 65537
  pub ring : IsRing (head_of entries) (next_at entries) (previous_at entries) (time_at entries) (listed_at entries)

-- behind `at` is where a place with this time goes
pub record IsSpot (entries : List DueEntry) (place time at : ℕ) : Type 0 where
  pub on : IsOn (head_of entries) (listed_at entries) at
  pub before : at ≢ head_of entries → IsBefore (time_at entries at) at time place
  pub after : next_at entries at ≢ head_of entries
      → IsBefore time place (time_at entries (next_at entries at)) (next_at entries at)

-- the place with this time is not after any other that is listed
abbrev pub IsFirst : List (Option Due) → ℕ → ℕ → Type 0
IsFirst order place time =
    (index : ℕ) (due : Due) → slice_get order index ≡ Some (Some due) → (time ≤ due.time) ×
    (due.time ≡ time → place ≤ index)

-- no place is listed
abbrev pub NoneListed : List (Option Due) → Type 0
NoneListed order = (index : ℕ) (due : Due) → slice_get order index ≢ Some (Some due)
