-- The parts of a block, read off what it keeps.
use Rattle.std.specs.Prelude.{ℕ, ◌≡◌, ◌<◌, ◌≤◌, List, [], length, map, Option, Some, None, slice_get, slice_set}
use Rattle.std.specs.Prelude.{count_by, Bool, true, false}
use Rattle.std.specs.List.{refill}
use Rattle.std.proofs.Math.ListN.{replicate}
use Rattle.part_window.specs.declared.block.TheConstants.{MAX_PARTS, PART_BYTES}

-- the bytes of the part with this place, and `blank` where it has none
abbrev pub part_at : List ℕ → List (List ℕ) → Option ℕ → List ℕ
part_at blank filled None = blank
part_at blank filled (Some place) = elim (slice_get filled place) [ Some bytes ↦ bytes | None ↦ [] ]

-- each part, where those without a place are `blank`
abbrev pub parts_with : List ℕ → List (List ℕ) → List (Option ℕ) → List (List ℕ)
parts_with blank filled places = map (part_at blank filled) places

-- each part, where those without a place are zeros
abbrev pub parts_of : List (List ℕ) → List (Option ℕ) → List (List ℕ)
parts_of = parts_with (replicate PART_BYTES 0)

-- the parts, with one part ending as these bytes, which keep its length
abbrev pub with_part : List (List ℕ) → ℕ → List ℕ → List (List ℕ)
with_part parts part written =
    elim (slice_get parts part) [ Some old ↦ slice_set parts part (refill PART_BYTES old written) | None ↦ parts ]

-- the part has a place
abbrev pub has_place : Option ℕ → Bool
has_place None = false
has_place (Some place) = true

-- each place is that of one part, and there is room for those that have none yet
pub record IsPlaced (filled capacity : ℕ) (places : List (Option ℕ)) : Type 0 where
  pub room : length places ≤ capacity
  pub few : length places ≤ MAX_PARTS
  pub counted : count_by has_place places ≡ filled
  pub inside : (part place : ℕ) → slice_get places part ≡ Some (Some place) → place < filled
  pub apart : (part other place : ℕ) → slice_get places part ≡ Some (Some place)
      → slice_get places other ≡ Some (Some place) → part ≡ other
