-- The records of a node's operations in 256 places, and what is asked of them.
use Rattle.std.specs.Prelude.{ℕ, ◌≡◌, ◌<◌, ◌≤◌, suc, Bool, true, false, not, ◌&&◌, ◌||◌, if◌then◌else◌, nat_lt, ◌==◌}
use Rattle.std.specs.Prelude.{List, [], ◌∷◌, Option, None, Some, is_some, length, slice_get}
use Rattle.std.specs.List.{list_any}
use Rattle.part_transfers.specs.declared.table.OperationRecord.{OperationRecord}
use Rattle.part_transfers.specs.declared.table.Pick.{Pick}
use Rattle.part_transfers.specs.declared.table.Pick.TheVariants as pick
use Rattle.part_transfers.specs.declared.table.Check.{Check}
use Rattle.part_transfers.specs.declared.table.Check.TheVariants.{Any, Others, Unissued, Unfinished, Open}
use Rattle.part_transfers.specs.Operation.{target, size, chunks}
use Rattle.part_transfers.specs.Syncs.{is_name, is_kind, less}

-- what stands in a place, if it isn't blank
abbrev pub flat : {Item : Type 0} → Option (Option Item) → Option Item
flat None = None
flat (Some there) = there

-- how many places are taken
abbrev pub taken_count : {Item : Type 0} → List (Option Item) → ℕ
taken_count [] = 0
taken_count (None ∷ later) = taken_count later
taken_count (Some item ∷ later) = suc (taken_count later)

-- the record of an operation of that number, in that region if it is in one, stands in the place
abbrev pub IsRecordOf : List (Option OperationRecord) → (place number : ℕ) → (region : Option ℕ) → Type 0
IsRecordOf places place number region =
    (there : OperationRecord) × (slice_get places place ≡ Some (Some there)) × (there.number ≡ number)
    × (there.region ≡ region)

-- a test of a place: of what stands there
abbrev pub on_place : (OperationRecord → Bool) → Option OperationRecord → Bool
on_place test None = false
on_place test (Some there) = test there

abbrev pub fits_pick : Pick → OperationRecord → Bool
fits_pick (pick.Region name) there = is_name name there.region
fits_pick (pick.Number number) there = there.number == number
fits_pick (pick.Implicit thread which) there =
    there.implicit && ((there.thread == thread) && is_kind which there.transfer)

abbrev pub is_unissued : OperationRecord → Bool
is_unissued there = nat_lt there.issued (chunks (size there.transfer))

-- the number by which a place waits: its operation's, if a record with an unissued chunk stands there
abbrev pub waits_by : Option OperationRecord → Option ℕ
waits_by None = None
waits_by (Some there) = if is_unissued there then Some there.number else None

abbrev pub waits_at : List (Option OperationRecord) → (place : ℕ) → Option ℕ
waits_at places place = waits_by (flat (slice_get places place))

-- the number by which a place stands in the list of all: its operation's, if a record stands there
abbrev pub stands_by : Option OperationRecord → Option ℕ
stands_by None = None
stands_by (Some there) = Some there.number

abbrev pub stands_at : List (Option OperationRecord) → (place : ℕ) → Option ℕ
stands_at places place = stands_by (flat (slice_get places place))

-- 1 if a record stands in the place that is in a region, or else 0
abbrev pub regions_of : Option OperationRecord → ℕ
regions_of None = 0
regions_of (Some there) = if is_some there.region then 1 else 0

abbrev pub passes : Check → OperationRecord → Bool
passes Any there = true
passes (Others thread) there = not (there.thread == thread)
passes Unissued there = is_unissued there
passes Unfinished there = is_unissued there || nat_lt there.returned there.issued
passes (Open thread) there =
    not (there.thread == thread) || (is_unissued there || nat_lt there.returned there.issued)

-- a record stands in the place, is marked, and passes
abbrev pub picks : (mark : Bool) → Check → Option OperationRecord → Bool
picks mark check place = on_place (λ there. mark && passes check there) place

-- one test or the other
abbrev pub also : (OperationRecord → Bool) → (OperationRecord → Bool) → OperationRecord → Bool
also test other there = test there || other there

-- some record of which the test holds passes
abbrev pub has_passing : (OperationRecord → Bool) → Check → List (Option OperationRecord) → Bool
has_passing test check places = list_any (on_place (λ there. test there && passes check there)) places

-- some record of which the test holds has an unissued chunk to the node
abbrev pub has_unissued_to : (OperationRecord → Bool) → (node : ℕ) → List (Option OperationRecord) → Bool
has_unissued_to test node places =
    list_any (on_place (λ there. test there && (is_unissued there && (target there.transfer == node)))) places

-- marked are the places of the records of which the test holds
pub record AreMarks (test : OperationRecord → Bool) (places : List (Option OperationRecord)) (marks : List Bool) : Type 0 where
  pub many : length marks ≡ 256
  pub each : (place : ℕ) → place < 256 → slice_get marks place ≡ Some (on_place test (flat (slice_get places place)))

-- the operation of that number stands in the place, and passes
abbrev pub IsPlaceOf : List (Option OperationRecord) → (number : ℕ) → Check → (place : ℕ) → Type 0
IsPlaceOf places number check place =
    (there : OperationRecord) × (slice_get places place ≡ Some (Some there)) × (there.number ≡ number)
    × (passes check there ≡ true)

-- a chunk of it may be issued
abbrev pub is_ready : (ℕ → Bool) → OperationRecord → Bool
is_ready can there = is_unissued there && can (target there.transfer)

-- the record there, if a chunk of it may be issued
abbrev pub ready : (ℕ → Bool) → Option OperationRecord → Option OperationRecord
ready can None = None
ready can (Some there) = if is_ready can there then Some there else None

-- no record is ready, or this one has the least number of those that are
abbrev pub IsLeast : (ℕ → Bool) → List (Option OperationRecord) → Option OperationRecord → Type 0
IsLeast can places None =
    (place : ℕ) (there : OperationRecord) → slice_get places place ≡ Some (Some there) → is_ready can there ≡ false
IsLeast can places (Some best) =
    ((place : ℕ) × (slice_get places place ≡ Some (Some best)) × (is_ready can best ≡ true))
    × ((place : ℕ) (there : OperationRecord) → slice_get places place ≡ Some (Some there)
    → is_ready can there ≡ true → best.number ≤ there.number)

-- the smaller one of a node that was found, if one was, and the target of the record there, where that one is meant and
-- a chunk of it may be issued
abbrev pub smaller_target : (flag : ℕ → Bool) → (meant : Bool) → Option ℕ → Option OperationRecord → Option ℕ
smaller_target flag meant found None = found
smaller_target flag meant found (Some there) =
    if meant && is_ready flag there then less (target there.transfer) found else found

-- the smallest node that is exhausted and to which a record has an unissued chunk
abbrev pub IsFirstExhausted : (exhausted : ℕ → Bool) → (OperationRecord → Bool) → List (Option OperationRecord) → Option ℕ → Type 0
IsFirstExhausted exhausted test places None =
    (node : ℕ) → exhausted node ≡ true → has_unissued_to test node places ≡ false
IsFirstExhausted exhausted test places (Some node) =
    (exhausted node ≡ true) × (has_unissued_to test node places ≡ true)
    × ((other : ℕ) → other < node → exhausted other ≡ true → has_unissued_to test other places ≡ false)

-- the place without a record that is picked
abbrev pub unless_picked : (OperationRecord → Bool) → Option OperationRecord → Option OperationRecord
unless_picked test None = None
unless_picked test (Some there) = if test there then None else Some there

-- each record that is picked goes
pub record AreDropped (test : OperationRecord → Bool) (old new : List (Option OperationRecord)) : Type 0 where
  pub many : length new ≡ length old
  pub each : (place : ℕ) (there : Option OperationRecord) → slice_get old place ≡ Some there
      → slice_get new place ≡ Some (unless_picked test there)
