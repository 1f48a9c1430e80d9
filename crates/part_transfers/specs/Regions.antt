-- The region that each thread has begun, by thread.
-- Origin: GASNet 1.8.1, extended API, implicit access regions (`gasnet_begin_nbi_accessregion`,
-- `gasnet_end_nbi_accessregion`). That a region bears the number of its first operation is this project's profile.
use Rattle.std.specs.Prelude.{ℕ, Bool, List, Option, None, Some, is_some, slice_get, slice_set, option_and_then}
use Rattle.part_transfers.specs.declared.regions.Region.{Region}

-- the region that the thread has begun and not ended
abbrev pub region_of : List (Option Region) → (thread : ℕ) → Option Region
region_of regions thread = option_and_then (λ region. region) (slice_get regions thread)

-- the thread has begun a region
abbrev pub has_begun : List (Option Region) → (thread : ℕ) → Bool
has_begun regions thread = is_some (region_of regions thread)

-- the name of the thread's region, where it has begun one that has a name
abbrev pub name_of : List (Option Region) → (thread : ℕ) → Option ℕ
name_of regions thread = option_and_then (λ region. region.name) (region_of regions thread)

-- a region that no operation has joined yet
abbrev pub empty_region : Region
empty_region = record { name = None }

-- a region that bears this number
abbrev pub region_of_serial : (serial : ℕ) → Region
region_of_serial serial = record { name = Some serial }

-- after an operation of the thread with this number: the number is the name of the region that the thread has begun,
-- where that is empty
abbrev pub after_operation : List (Option Region) → (thread serial : ℕ) → List (Option Region)
after_operation regions thread serial = elim (region_of regions thread) [
  | None ↦ regions
  | Some region ↦ elim region.name [
    | None ↦ slice_set regions thread (Some (region_of_serial serial))
    | Some first ↦ regions
  ]
]
